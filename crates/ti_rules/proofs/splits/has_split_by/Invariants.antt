-- The rest has one exactly if all has.
use Rattle.std.proofs.Common.{◌≡◌, length}
use Rattle.ti_rules.specs.Splits.{has_split_by}
use Rattle.ti_rules.proofs.splits.has_split_by.Given as goal

abbrev pub invariant-bytes : goal.invariant-bytes
invariant-bytes l = has_split_by l.byte l.rest ≡ has_split_by l.byte l.bytes

abbrev pub decreases-bytes : goal.decreases-bytes
decreases-bytes l = length l.rest
