-- No mark so far takes more than a second.
use Rattle.std.proofs.Common.{◌<◌, ◌≤◌, ℕ, drop}
use Rattle.ti_pad.specs.Delays.{delay_at}
use Rattle.ti_pad.proofs.delay.first_long_delay.Given as goal

abbrev pub invariant-bytes : goal.invariant-bytes
invariant-bytes l = (k : ℕ) → k < l.place → delay_at (drop k l.bytes) ≤ 10000
