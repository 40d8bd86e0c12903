-- What a printer has printed.
use Rattle.std.specs.Io.{StartsWith}
use Rattle.std.specs.List.{flat_map, list_all}
use Rattle.std.specs.Prelude.{◌≡◌, ◌==◌, ◌||◌, ℕ, Bool, true, false, List, [], ◌∷◌, ◌++◌, codes, if◌then◌else◌}
use Rattle.ti_base.specs.Letters.{letter}
use Rattle.ti_escape.specs.Laws.{is_printable}
use Rattle.ti_escape.specs.Notation.{octal}

-- the text so far, whether memory was refused, and whether a call did not fit
pub record Printed : Type 0 where
  pub bytes : List ℕ
  pub is_refused : Bool
  pub is_misused : Bool

-- what was there stays in front
abbrev pub StaysFront : List ℕ → List ℕ → Type 0
StaysFront old new = (start : List ℕ) → StartsWith old start → StartsWith new start

-- neither is forgotten, and what was written stays
pub record Keeps (old new : Printed) : Type 0 where
  pub is_refused : old.is_refused ≡ true → new.is_refused ≡ true
  pub is_misused : old.is_misused ≡ true → new.is_misused ≡ true
  pub front : StaysFront old.bytes new.bytes

-- what was printable still is, and what was there stays in front
pub record GoesOn (old new : List ℕ) : Type 0 where
  pub printable : list_all is_printable old ≡ true → list_all is_printable new ≡ true
  pub front : StaysFront old new

-- ---- objects

-- a byte as it stands in a string, and a string
abbrev pub in_string : ℕ → List ℕ
in_string byte =
    if byte == letter (codes "\"") || byte == letter (codes "\\") then letter (codes "\\") ∷ byte ∷ []
    else (if is_printable byte then byte ∷ [] else letter (codes "\\") ∷ octal byte)

abbrev pub as_string : List ℕ → List ℕ
as_string bytes = codes "\"" ++ (flat_map in_string bytes ++ codes "\"")

-- an object up to the end of its first member, which is a word
abbrev pub first_member : List ℕ → List ℕ → List ℕ
first_member name word = codes "{" ++ (as_string name ++ (codes ":" ++ as_string word))

-- unless memory was refused or a call did not fit, an object with this member comes after what was there, and after a comma or nothing
pub record AddsObject (member : List ℕ) (old new : Printed) : Type 0 where
  pub fits : new.is_misused ≡ false → old.is_misused ≡ false
  pub kept : new.is_refused ≡ false → old.is_refused ≡ false
  pub added : new.is_refused ≡ false → new.is_misused ≡ false
      → (comma : List ℕ) × (more : List ℕ) × (new.bytes ≡ old.bytes ++ (comma ++ (member ++ more)))
