-- What holds of the notation of every text.
use Rattle.std.specs.Prelude.{◌≡◌, ◌≢◌, ◌-◌, ◌&&◌, ℕ, Bool, true, List, Ok, codes, length, nat_le, nat_lt, slice_index}
use Rattle.std.specs.List.{list_all}
use Rattle.ti_escape.specs.Notation.{label_notation, notation}
use Rattle.ti_escape.specs.Reading.{reading}

abbrev pub is_byte : ℕ → Bool
is_byte number = nat_lt number 256

abbrev pub AreBytes : List ℕ → Type 0
AreBytes text = list_all is_byte text ≡ true

-- the notation of a text is read as the text
abbrev pub IsReadBack : Type 0
IsReadBack = (text : List ℕ) → AreBytes text → reading (notation text) ≡ Ok text

-- two texts that look the same are the same
abbrev pub LooksLikeNoOther : Type 0
LooksLikeNoOther = (a b : List ℕ) → AreBytes a → AreBytes b → notation a ≡ notation b → a ≡ b

-- no text looks like what a listing writes in place of one
abbrev pub LooksLikeNoWord : Type 0
LooksLikeNoWord = (text : List ℕ) → AreBytes text
    → (notation text ≢ codes "-") × (notation text ≢ codes "cancelled")

-- the characters from the space to `~`
abbrev pub is_printable : ℕ → Bool
is_printable char = nat_le 32 char && nat_lt char 127

-- each character of a notation can be printed
abbrev pub IsPrintable : Type 0
IsPrintable = (text : List ℕ) → list_all is_printable (notation text) ≡ true

-- neither the first nor the last character of a notation is a space
abbrev pub HasNoBlankEnd : Type 0
HasNoBlankEnd = (text : List ℕ) → (slice_index (notation text) 0 ≢ 32)
    × (slice_index (notation text) (length (notation text) - 1) ≢ 32)

-- ---- labels

-- the label of a name is read as the name
abbrev pub IsLabelReadBack : Type 0
IsLabelReadBack = (name : List ℕ) → AreBytes name → reading (label_notation name) ≡ Ok name

-- two names whose labels look the same are the same
abbrev pub LabelLooksLikeNoOther : Type 0
LabelLooksLikeNoOther = (a b : List ℕ) → AreBytes a → AreBytes b
    → label_notation a ≡ label_notation b → a ≡ b

-- the characters from `!` to `~`, so no space
abbrev pub is_label_char : ℕ → Bool
is_label_char char = nat_lt 32 char && nat_lt char 127

-- a label is one field of printable characters between spaces
abbrev pub HasNoSpace : Type 0
HasNoSpace = (name : List ℕ) → list_all is_label_char (label_notation name) ≡ true
