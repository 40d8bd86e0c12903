-- What stands after the rest's letters stands after those of all.
use Rattle.std.proofs.Common.{◌≡◌, length}
use Rattle.ti_rules.specs.Own.{after_selection}
use Rattle.ti_rules.proofs.own.after_selection.Given as goal

abbrev pub invariant-bytes : goal.invariant-bytes
invariant-bytes l = after_selection l.rest ≡ after_selection l.text

abbrev pub decreases-bytes : goal.decreases-bytes
decreases-bytes l = length l.rest
