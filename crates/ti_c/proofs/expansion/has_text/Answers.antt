use Rattle.std.proofs.Common.{◌≡◌, Bool, true, false, ◌||◌, arith, refl, true≢false}
use Rattle.std.specs.Bool.{OnFalse}
use Rattle.std.proofs.lemmas.Bool.{OnFalse_at, OnFalse_from}
use Rattle.ti_c.proofs.AreShortLemmas.{none_given, short_given}
use Rattle.ti_c.proofs.expansion.has_text.Goals as goal

neither : (x y : Bool) (P : Type 0) → (x ≡ false → y ≡ false → P) → OnFalse (x || y) P
neither true y P f = OnFalse_from true P (λ e. absurd (true≢false e))
neither false true P f = OnFalse_from true P (λ e. absurd (true≢false e))
neither false false P f = OnFalse_from false P (λ e. f refl refl)

pub loop-parameter-init : goal.loop-parameter-init
loop-parameter-init c = OnFalse_from false _ (λ e. none_given)

pub loop-parameter-preserved : goal.loop-parameter-preserved
loop-parameter-preserved c =
    neither c.loop-parameter.found c.is_text-found.result _ (λ before here.
    short_given c.args.parameters.now c.loop-parameter.parameter-index _ (omega arith) (omega (arith, c.requires)) (OnFalse_at before c.loop-parameter.invariant)
    (OnFalse_at here c.is_text-found.ensures.len) (OnFalse_at here c.is_text-found.ensures.sound))
