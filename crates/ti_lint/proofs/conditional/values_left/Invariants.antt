-- What is left to count leads to the same number.
use Rattle.std.proofs.Common.{◌≡◌, ◌≤◌, drop}
use Rattle.std.specs.Prelude.{Some}
use Rattle.ti_lint.specs.Conditionals.{values_left}
use Rattle.ti_lint.proofs.conditional.values_left.Given as goal

abbrev pub invariant-loop-token : goal.invariant-loop-token
invariant-loop-token l =
    (values_left (Some l.height) (drop l.token-index l.test) ≡ values_left (Some 0) l.test) × (l.height ≤ l.token-index)
