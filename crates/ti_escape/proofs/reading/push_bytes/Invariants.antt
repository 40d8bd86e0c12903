use Rattle.std.proofs.Common.{◌≡◌, ◌≤◌, ◌+◌, ◌++◌, ℕ, List, false, length, vec_capacity, vec_len}
use Rattle.ti_escape.specs.Reading.{read_from, with_bytes}
use Rattle.ti_escape.proofs.reading.push_bytes.Given as goal

abbrev pub invariant-characters : goal.invariant-characters
invariant-characters g l =
    (length l.left ≤ length l.notation)
    × ((read : List ℕ) × (l.out.items ≡ l.initial.out.items ++ read)
    × (read_from false 0 l.notation ≡ with_bytes read (read_from l.after_percent 0 l.left)))
    × (vec_len l.initial.out + length l.notation ≤ vec_capacity l.initial.out → vec_len l.out + length l.left ≤ vec_capacity l.out)

abbrev pub decreases-characters : goal.decreases-characters
decreases-characters g l = length l.left
