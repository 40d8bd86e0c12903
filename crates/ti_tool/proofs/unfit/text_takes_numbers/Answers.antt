use Rattle.std.proofs.Common.{◌^◌, ◌<◌, ℕ, List, arith, subst}
use Rattle.std.specs.Prelude.{◌↔◌}
use Rattle.ti_cap.specs.Sources.{Has, IsTakenAsText}
use Rattle.ti_tool.proofs.UnfitLemmas.{none_taken}
use Rattle.ti_tool.proofs.unfit.text_takes_numbers.Goals as goal

pub returns-in-Ok : goal.returns-in-Ok
returns-in-Ok c =
    let texts = c.parameters.result.texts in
    let all = subst (λ (t : List ℕ). (which : ℕ) → Has texts which ↔ IsTakenAsText t which) c.in-Ok.ensures.value c.parameters.ensures.texts in
    let small : texts.mask < 2 ^ 16 = omega arith in
    let taken = none_taken c.args.text.now texts small all in
    (λ empty. (c.in-Ok.ensures.accepted, taken.0 empty), λ takes. taken.1 takes.1)
