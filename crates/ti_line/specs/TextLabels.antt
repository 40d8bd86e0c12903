-- Labels, which name a capability by its index.
use Rattle.std.specs.Prelude.{◌≡◌, ◌≤◌, ◌⊎◌, ℕ, List, ◌++◌, length, codes}
use Rattle.std.specs.Str.Parse.{IsNumeral, digits_value}

-- `#` and one to five digits
abbrev pub IsLabel : List ℕ → ℕ → Type 0
IsLabel name index =
    (digits : List ℕ) × (name ≡ codes "#" ++ digits) × IsNumeral 10 digits × (length digits ≤ 5)
    × (index ≡ digits_value 10 digits)

-- the label of a text: the word `text` may stand before it
abbrev pub IsTextLabel : List ℕ → ℕ → Type 0
IsTextLabel name index =
    IsLabel name index ⊎ ((label : List ℕ) × (name ≡ codes "text" ++ label) × IsLabel label index)
