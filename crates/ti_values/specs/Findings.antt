-- What is wrong with what is sent for some values, told by the first values for which it is.
use Rattle.std.specs.Prelude.{◌≡◌, ℕ, ◌<◌, List, [], length, get_or, Option, Some, None}
use Rattle.ti_values.specs.Sequences.{HasRendition, HasShown, HasUnended}
use Rattle.ti_values.specs.declared.same.Same.{Same}

-- what is sent for the value at a place
abbrev pub sent_at : List (List ℕ) → ℕ → List ℕ
sent_at all k = get_or all k []

-- a place is the first of which it holds, or it holds of none
abbrev pub IsFirstOf : (ℕ → Type 0) → Option ℕ → Type 0
IsFirstOf Holds None = (k : ℕ) → ¬ Holds k
IsFirstOf Holds (Some k) = Holds k × ((earlier : ℕ) → earlier < k → ¬ Holds earlier)

-- nothing is sent for the value at a place
abbrev pub IsEmptyAt : List (List ℕ) → ℕ → Type 0
IsEmptyAt all k = (k < length all) × (sent_at all k ≡ [])

-- what is sent for it has a `\E[` that is not ended
abbrev pub IsUnendedAt : List (List ℕ) → ℕ → Type 0
IsUnendedAt all k = (k < length all) × HasUnended (sent_at all k)

-- what is sent for it shows on the screen, though a rendition is selected for the first value
abbrev pub IsShownAt : List (List ℕ) → ℕ → Type 0
IsShownAt all k = (k < length all) × HasRendition (sent_at all 0) × HasShown (sent_at all k)

-- the same is sent for two values, the one and the other after it
abbrev pub IsSameAt : List (List ℕ) → ℕ → ℕ → Type 0
IsSameAt all one other = (one < other) × (other < length all) × (sent_at all one ≡ sent_at all other)

-- the first value for which the same is sent as for an earlier one, and that one; or there is none
abbrev pub IsFirstSame : List (List ℕ) → Option Same → Type 0
IsFirstSame all None = (one other : ℕ) → ¬ IsSameAt all one other
IsFirstSame all (Some found) =
    IsSameAt all found.one found.other × ((one other : ℕ) → other < found.other → ¬ IsSameAt all one other)
