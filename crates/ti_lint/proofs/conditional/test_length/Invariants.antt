-- What is left to look at leads to the same place.
use Rattle.std.proofs.Common.{◌≡◌, ◌≤◌, drop}
use Rattle.std.specs.Prelude.{Some}
use Rattle.ti_lint.specs.inner.Conditionals.{test_length}
use Rattle.ti_lint.proofs.conditional.test_length.Given as goal

abbrev pub invariant-loop-count : goal.invariant-loop-count
invariant-loop-count l =
    (test_length (Some l.height) l.count (drop l.count l.after) ≡ test_length (Some 0) 0 l.after) × (l.height ≤ l.count)
