-- What a text is tried over.
use Rattle.std.specs.Prelude.{ℕ, ◌+◌, ◌-◌, List, [], ◌∷◌, map, pos}
use Rattle.std.specs.Int.{bit_at}
use Rattle.std.specs.List.{flat_map, range_with_len}
use Rattle.ti_expand.specs.declared.values.Value.{Value}
use Rattle.ti_expand.specs.declared.values.Value.TheVariants.{Num}
use Rattle.ti_values.specs.declared.range.Range.{Range}
use Rattle.ti_values.specs.declared.range.Range.TheVariants as ranges
use Rattle.ti_values.specs.declared.tried.Tried.{Tried}
use Rattle.ti_values.specs.declared.tried.Tried.TheVariants.{Number, Two, Attributes}

abbrev pub number : ℕ → Value
number n = Num (pos n)

-- the nine parameters of a try: numbers, and then 0; or of nine attributes those that are in a set, bit N - 1 for attribute N
abbrev pub parameters_of : Tried → List Value
parameters_of (Number first) =
    number first ∷ number 0 ∷ number 0 ∷ number 0 ∷ number 0 ∷ number 0 ∷ number 0 ∷ number 0 ∷ number 0 ∷ []
parameters_of (Two first second) =
    number first ∷ number second ∷ number 0 ∷ number 0 ∷ number 0 ∷ number 0 ∷ number 0 ∷ number 0 ∷ number 0 ∷ []
parameters_of (Attributes set) =
    number (bit_at set 0) ∷ number (bit_at set 1) ∷ number (bit_at set 2) ∷ number (bit_at set 3) ∷ number (bit_at set 4)
    ∷ number (bit_at set 5) ∷ number (bit_at set 6) ∷ number (bit_at set 7) ∷ number (bit_at set 8) ∷ []

-- the numbers from one up to below another
abbrev pub numbers : ℕ → ℕ → List ℕ
numbers from end = range_with_len from (end - from)

-- a number with each of those numbers
abbrev pub pairs : ℕ → ℕ → ℕ → List Tried
pairs first from end = map (λ second. Two first second) (numbers from end)

-- all tries of a range, in their order: numbers; each line with each column; each line with each one below it; all sets of the
-- nine attributes
unfoldable pub values : Range → List Tried
values (ranges.Numbers from end) = map (λ first. Number first) (numbers from end)
values (ranges.Places lines columns) = flat_map (λ line. pairs line 0 columns) (numbers 0 lines)
values (ranges.Regions lines) = flat_map (λ top. pairs top (top + 1) lines) (numbers 0 lines)
values ranges.Attributes = map (λ set. Attributes set) (numbers 0 512)
