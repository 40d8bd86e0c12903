-- At no place so far stands a `\E[` that is not ended.
use Rattle.std.proofs.Common.{ℕ, ◌<◌}
use Rattle.ti_values.specs.Sequences.{IsUnended}
use Rattle.ti_values.proofs.sequence.has_unended.Given as goal

abbrev pub invariant-bytes : goal.invariant-bytes
invariant-bytes l = (other : ℕ) → other < l.place → ¬ IsUnended l.bytes other
