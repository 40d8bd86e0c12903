-- The tokens from here on are constants.
use Rattle.std.proofs.Common.{◌≡◌, ◌≤◌, true, drop, length}
use Rattle.ti_lint.specs.Conditionals.{are_constant}
use Rattle.ti_lint.proofs.conditional.constants_start.Given as goal

abbrev pub invariant-back : goal.invariant-back
invariant-back l = (l.start ≤ length l.before) × (are_constant (drop l.start l.before) ≡ true)

abbrev pub decreases-back : goal.decreases-back
decreases-back l = l.start
