-- What is counted and what the rest takes are all; no byte takes too much.
use Rattle.std.proofs.Common.{◌≡◌, ◌+◌, ◌*◌, ◌≤◌, length}
use Rattle.ti_pad.specs.Delays.{total_delay}
use Rattle.ti_pad.proofs.delay.total_delay.Given as goal

abbrev pub invariant-bytes : goal.invariant-bytes
invariant-bytes l = record {
  counted : l.total + total_delay l.rest ≡ total_delay l.bytes;
  few : l.total + 1000000 * length l.rest ≤ 1000000 * length l.bytes;
}

abbrev pub decreases-bytes : goal.decreases-bytes
decreases-bytes l = length l.rest
