use Rattle.std.proofs.Common.{◌≡◌, Bool, true, false, ◌||◌, arith, refl, sym, true≢false}
use Rattle.std.specs.Bool.{OnFalse}
use Rattle.std.proofs.lemmas.Bool.{OnFalse_at, OnFalse_from}
use Rattle.ti_expand.proofs.AreShortLemmas.{short_more}
use Rattle.ti_expand.proofs.text_lengths.has_text.Goals as goal

neither : (x y : Bool) (P : Type 0) → (x ≡ false → y ≡ false → P) → OnFalse (x || y) P
neither true y P f = OnFalse_from true P (λ e. absurd (true≢false e))
neither false true P f = OnFalse_from true P (λ e. absurd (true≢false e))
neither false false P f = OnFalse_from false P (λ e. f refl refl)

pub loop-value-preserved : goal.loop-value-preserved
loop-value-preserved c =
    neither c.loop-value.found c.is_text-found.result _ (λ before here.
    short_more c.args.parameters.now c.loop-value.value-index 0 0 0 (omega arith) (OnFalse_at before c.loop-value.invariant)
    (sym (OnFalse_at here c.is_text-found.ensures.len)) (OnFalse_at here c.is_text-found.ensures.sound) (omega arith) (omega arith))
