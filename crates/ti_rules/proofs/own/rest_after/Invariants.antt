-- What stands after the rest's first such byte stands after that of all.
use Rattle.std.proofs.Common.{◌≡◌, length}
use Rattle.ti_rules.specs.Own.{rest_after}
use Rattle.ti_rules.proofs.own.rest_after.Given as goal

abbrev pub invariant-bytes : goal.invariant-bytes
invariant-bytes l = rest_after l.byte l.rest ≡ rest_after l.byte l.text

abbrev pub decreases-bytes : goal.decreases-bytes
decreases-bytes l = length l.rest
