-- What a text sends for the values that it is given.
use Rattle.std.specs.Prelude.{◌≡◌, ◌≤◌, ℕ, length, List, [], ◌∷◌, map, ℤ, pos, replicate}
use Rattle.std.specs.List.{flat_map}
use Rattle.std.specs.Prelude.{Vec}
use Rattle.ti_cap.specs.Capability.{HasBound, IsWellFormed}
use Rattle.ti_expand.specs.Expands.{ForMeaning}
use Rattle.ti_expand.specs.declared.values.Value.{Value}
use Rattle.ti_pad.specs.Marks.{Piece, literal, marked, pieces}
use Rattle.ti_values.specs.Limits.{most_bytes, most_written_bytes}
use Rattle.ti_values.specs.Ranges.{parameters_of}
use Rattle.ti_values.specs.declared.tried.Tried.{Tried}

-- the variables before anything was stored
abbrev pub fresh : List ℤ
fresh = replicate 52 (pos 0)

-- the bytes that are no part of a padding mark
abbrev pub literal_bytes : Piece → List ℕ
literal_bytes (literal byte) = byte ∷ []
literal_bytes (marked mark) = []

abbrev pub without_marks : List ℕ → List ℕ
without_marks bytes = flat_map literal_bytes (pieces bytes)

-- what the text sends for these parameters: what its tree writes over fresh variables, without padding marks
pub record Sends (text : List ℕ) (parameters : List Value) (sent : List ℕ) : Type 0 where
  pub tree : IsWellFormed text
  pub meant : ForMeaning text fresh parameters (λ end. sent ≡ without_marks end.output)

-- the same for each of some values, in their order
abbrev pub AreSent : List ℕ → List Tried → List (List ℕ) → Type 0
AreSent text [] all = all ≡ []
AreSent text (value ∷ values) [] = ⊥
AreSent text (value ∷ values) (sent ∷ all) = Sends text (parameters_of value) sent × AreSent text values all

-- the texts that a list of vectors holds
abbrev pub texts_of : {B : Type 0} → List (Vec ℕ B) → List (List ℕ)
texts_of list = map (λ text. text.items) list

-- a text that is not too long to be tried, and does not write too much on any path
abbrev pub IsShort : List ℕ → Type 0
IsShort text =
    (length text ≤ most_bytes) × ((bound : ℕ) → HasBound text 0 bound → bound ≤ most_written_bytes)
