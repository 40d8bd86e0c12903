-- Outputs that rise, each shorter than the next, or as long and before it in the order of bytes.
use Rattle.std.specs.Prelude.{◌≡◌, ℕ, ◌<◌, ◌⊎◌, true, List, length}
use Rattle.std.specs.Ordering.{is_lt, nat_cmp}
use Rattle.std.specs.Cmp.Lexicographic.{slice_cmp}

abbrev pub IsBefore : List ℕ → List ℕ → Type 0
IsBefore one other = (length one < length other) ⊎ ((length one ≡ length other) × (is_lt (slice_cmp nat_cmp one other) ≡ true))
