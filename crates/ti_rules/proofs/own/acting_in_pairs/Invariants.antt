-- What is left from there on is that of all.
use Rattle.std.proofs.Common.{◌≡◌, length}
use Rattle.ti_rules.specs.Own.{acting_in_pairs}
use Rattle.ti_rules.proofs.own.acting_in_pairs.Given as goal

abbrev pub invariant-pairs : goal.invariant-pairs
invariant-pairs l = acting_in_pairs l.rest ≡ acting_in_pairs l.text

abbrev pub decreases-pairs : goal.decreases-pairs
decreases-pairs l = length l.rest
