use Rattle.std.proofs.Common.{ℕ, ◌+◌, ◌*◌, ◌%◌, ◌<◌, ◌≤◌, get_or}
use Rattle.ti_layout.proofs.greatest.greatest_byte.Given as goal

abbrev pub invariant-loop-byte : goal.invariant-loop-byte
invariant-loop-byte l = (k : ℕ) → k < l.byte-index → (get_or l.bytes (l.from + 1 * k) 0 + l.lift) % 256 ≤ l.greatest
