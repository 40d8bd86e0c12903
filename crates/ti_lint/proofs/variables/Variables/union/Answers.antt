use Rattle.std.proofs.Common.{ℕ, ◌⊎◌, ◌↔◌, sym, subst}
use Rattle.ti_lint.specs.declared.variables.Variables.{Variables}
use Rattle.ti_lint.specs.Variables.{HasOnlyLetters, HasVariable}
use Rattle.ti_lint.proofs.VariablesLemmas.{either_only_letters, has_either_set}
use Rattle.ti_lint.proofs.variables.Variables.union.Goals as goal

pub returns-clause-exact : goal.returns-clause-exact
returns-clause-exact c =
    let P : Variables → Type 0 = λ x. (which : ℕ) → HasVariable x which ↔ (HasVariable c.args.self which ⊎ HasVariable c.args.other which) in
    subst P (sym c.either.ensures) (has_either_set c.args.self c.args.other)

pub returns-clause-only : goal.returns-clause-only
returns-clause-only c = λ mine theirs. subst HasOnlyLetters (sym c.either.ensures) (either_only_letters c.args.self c.args.other mine theirs)
