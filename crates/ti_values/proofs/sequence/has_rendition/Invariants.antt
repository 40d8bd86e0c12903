-- At no place so far stands a sequence that selects a rendition.
use Rattle.std.proofs.Common.{ℕ, ◌<◌}
use Rattle.ti_values.specs.Sequences.{IsRendition}
use Rattle.ti_values.proofs.sequence.has_rendition.Given as goal

abbrev pub invariant-bytes : goal.invariant-bytes
invariant-bytes l = (other : ℕ) → other < l.place → ¬ IsRendition l.bytes other
