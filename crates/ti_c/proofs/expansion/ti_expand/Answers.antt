use Rattle.std.proofs.Common.{◌∙◌, List, ℕ, length, inr, subst, sym}
use Rattle.std.proofs.lemmas.Bool.{OnFalse_at}
use Rattle.ti_c.specs.Given.{values_given, IsExpansionFault}
use Rattle.ti_c.proofs.expansion.ti_expand.Goals as goal

pub returns-clause-only : goal.returns-clause-only
returns-clause-only c = λ number place due.
    let parameters = c.args.parameters.now in
    let P : List ℕ → Type 0 = λ out. IsExpansionFault c.args.capability.now (values_given parameters) (length parameters) (length out) number place in
    let kept = OnFalse_at c.if-expand_if_numbers.false c.expand_if_numbers.ensures.kept in
    let told = c.expand_values.ensures.only number place (subst P (sym (kept.1 ∙ c.in_default.ensures.kept)) due) in (told.0, inr told.1)
