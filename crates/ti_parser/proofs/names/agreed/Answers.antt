use Rattle.std.proofs.Common.{◌≡◌, ◌∙◌, ℤ, rules, sym, subst}
use Rattle.std.specs.Prelude.{Option}
use Rattle.ti_expand.specs.State.{variable_at, variable_index}
use Rattle.ti_parser.proofs.TopsLemmas.{NumberIs, number_in_is}
use Rattle.ti_parser.proofs.names.agreed.Goals as goal

pub returns-in-Some-number-clause-right : goal.returns-in-Some-number-clause-right
returns-in-Some-number-clause-right c = λ variables h.
    let letter = c.in-Some.known.letter in
    let letter_number : ℤ = c.in-Some.known.number in
    let P : Option ℤ → Type 0 = λ x. NumberIs x letter variables in
    let is : variable_at variables (variable_index letter) ≡ c.in-Some-number.number = subst P (sym c.in-Some-number.ensures) (number_in_is c.args.others letter variables h) in
    let same : c.in-Some-number.number ≡ letter_number = search rules in
    is ∙ same
