-- What is left shows exactly if all does.
use Rattle.std.proofs.Common.{◌≡◌, length}
use Rattle.ti_values.specs.Sequences.{shows_after}
use Rattle.ti_values.proofs.sequence.has_shown.Given as goal

abbrev pub invariant-bytes : goal.invariant-bytes
invariant-bytes l = shows_after 0 l.rest ≡ shows_after 0 l.bytes

abbrev pub decreases-bytes : goal.decreases-bytes
decreases-bytes l = length l.rest
