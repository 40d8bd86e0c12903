-- The time that the marks of a text take.
use Rattle.std.specs.Prelude.{◌<◌, ◌≤◌, ◌+◌, ℕ, List, [], ◌∷◌, Option, Some, None, drop, length}
use Rattle.ti_pad.specs.Marks.{Mark, mark_at}
use Rattle.ti_pad.specs.Padded.{tenths}

abbrev pub delay_of : Option Mark → ℕ
delay_of None = 0
delay_of (Some mark) = tenths mark

-- that of the mark at the front, in tenths of a millisecond for each affected line; none takes no time
abbrev pub delay_at : List ℕ → ℕ
delay_at bytes = delay_of (mark_at bytes)

-- that of all marks, each at its place
unfoldable pub total_delay : List ℕ → ℕ
total_delay [] = 0
total_delay (byte ∷ rest) = delay_at (byte ∷ rest) + total_delay rest

-- the first place with a mark of more than a second, or none has one
abbrev pub IsFirstLong : List ℕ → Option ℕ → Type 0
IsFirstLong bytes None = (k : ℕ) → k < length bytes → delay_at (drop k bytes) ≤ 10000
IsFirstLong bytes (Some at) =
    (at < length bytes) × (10000 < delay_at (drop at bytes)) × ((k : ℕ) → k < at → delay_at (drop k bytes) ≤ 10000)
