use Rattle.std.proofs.Common.{◌≡◌, ◌∙◌, Bool, List, rules, sym, true, false}
use Rattle.std.specs.Bool.{Decides, OnTrue}
use Rattle.std.specs.Cmp.Lexicographic.{pointwise, pointwise_decides}
use Rattle.ti_parser.specs.contracts.number.FunctionNumberPartialEq as number_eq
use Rattle.ti_parser.specs.declared.number.FunctionNumber.{FunctionNumber}
use Rattle.ti_parser.proofs.number.FunctionNumbers.is_same.Goals as goal

same_number : (a b : FunctionNumber) → Decides ((number_eq.TheImpl.eq-value).it a b) (a ≡ b)
same_number a b = search rules

same_numbers : (r : Bool) (xs ys : List FunctionNumber) → r ≡ pointwise (number_eq.TheImpl.eq-value).it xs ys → OnTrue r (xs ≡ ys)
same_numbers true xs ys e = (pointwise_decides same_number xs ys).0 (sym e)
same_numbers false xs ys e = tt

on_true_through : (r : Bool) (xs ys zs ws : List FunctionNumber) → xs ≡ zs → ys ≡ ws → OnTrue r (xs ≡ ys) → OnTrue r (zs ≡ ws)
on_true_through true xs ys zs ws e f h = sym e ∙ h ∙ f
on_true_through false xs ys zs ws e f h = tt

pub returns : goal.returns
returns c =
    on_true_through c.eq.result c.as_slice.result.now c.as_slice-2.result.now c.args.self.now c.args.other.now c.as_slice.ensures.numbers c.as_slice-2.ensures.numbers
    (same_numbers c.eq.result c.as_slice.result.now c.as_slice-2.result.now c.eq.ensures)
