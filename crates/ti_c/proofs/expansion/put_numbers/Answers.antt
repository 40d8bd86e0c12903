use Rattle.std.proofs.Common.{◌≡◌, Bool, true, false, ◌||◌, arith, refl, subst, true≢false, w32}
use Rattle.std.specs.Bool.{OnFalse}
use Rattle.std.proofs.lemmas.Bool.{OnFalse_at, OnFalse_from}
use Rattle.std.proofs.lemmas.Int.{to_z-of_z}
use Rattle.ti_expand.specs.Sound.{IsSoundValue}
use Rattle.ti_c.proofs.ValuesLemmas.{numbers_more}
use Rattle.ti_c.proofs.AreShortLemmas.{none_given, short_given}
use Rattle.ti_c.proofs.expansion.put_numbers.Goals as goal

neither : (x y : Bool) (P : Type 0) → (x ≡ false → y ≡ false → P) → OnFalse (x || y) P
neither true y P f = OnFalse_from true P (λ e. absurd (true≢false e))
neither false true P f = OnFalse_from true P (λ e. absurd (true≢false e))
neither false false P f = OnFalse_from false P (λ e. f refl refl)

pub loop-i-init : goal.loop-i-init
loop-i-init c = record { values = OnFalse_from false _ (λ e. c.requires.zeros); short = OnFalse_from false _ (λ e. none_given) }

pub loop-i-preserved : goal.loop-i-preserved
loop-i-preserved c =
    let l = c.loop-i in
    let ps = c.args.parameters.now in
    record {
      values = neither l.found c.is_text-found.result _ (λ before here.
          let is = OnFalse_at here c.is_text-found.ensures.number in
          rw (to_z-of_z w32 _ (subst (IsSoundValue 0) is (OnFalse_at here c.is_text-found.ensures.sound)))
          (numbers_more ps l.numbers l.i _ _ (omega arith) (omega (arith, c.requires.few)) (OnFalse_at before l.invariant.values) is));
      short = neither l.found c.is_text-found.result _ (λ before here.
          short_given ps l.i _ (omega arith) (omega (arith, c.requires.few)) (OnFalse_at before l.invariant.short)
          (OnFalse_at here c.is_text-found.ensures.len) (OnFalse_at here c.is_text-found.ensures.sound));
    }
