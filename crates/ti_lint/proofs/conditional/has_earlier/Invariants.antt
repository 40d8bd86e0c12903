-- No arm has the test from here on, and so many conditionals are closed that are not opened there.
use Rattle.std.proofs.Common.{◌+◌, ◌≤◌, length}
use Rattle.ti_lint.proofs.ConditionalsLemmas.{Looked}
use Rattle.ti_lint.proofs.conditional.has_earlier.Given as goal

abbrev pub invariant-back : goal.invariant-back
invariant-back l = (l.place ≤ length l.before) × (l.closed + l.place ≤ length l.before) × Looked l.before l.test l.place l.closed

abbrev pub decreases-back : goal.decreases-back
decreases-back l = l.place
