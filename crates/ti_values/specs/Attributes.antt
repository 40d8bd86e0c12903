-- The attributes of `sgr`.
use Rattle.std.specs.Prelude.{◌≡◌, ◌<◌, ◌^◌, ◌&&◌, ◌||◌, ℕ, Bool, List, [], ◌∷◌, codes, length, not, IsTrue}
use Rattle.std.specs.Int.{bit_at}
use Rattle.std.specs.Str.{bytes_eq}
use Rattle.ti_values.specs.Findings.{sent_at}
use Rattle.ti_values.specs.Renditions.{are_parts, lacks, lacks_new, parameters, shifts}

-- the texts that start them, each with the set of this attribute alone
unfoldable pub attributes : List (List ℕ × ℕ)
attributes =
    (codes "smso", 1) ∷ (codes "smul", 2) ∷ (codes "rev", 4) ∷ (codes "blink", 8) ∷ (codes "dim", 16) ∷ (codes "bold", 32) ∷
    (codes "invis", 64) ∷ (codes "prot", 128) ∷ (codes "smacs", 256) ∷ []

-- the same is sent for a set as for no attribute
abbrev pub is_ignored : List (List ℕ) → ℕ → Bool
is_ignored all set = bytes_eq (sent_at all set) (sent_at all 0)

-- what is sent lacks a parameter or a shift of the text, and both are renditions and shifts alone
abbrev pub lacks_part : (sent text : List ℕ) → Bool
lacks_part sent text =
    are_parts sent && (are_parts text && (lacks (parameters sent) (parameters text) || lacks (shifts sent) (shifts text)))

-- for a set that is not ignored something else is sent than the text that starts its attribute
abbrev pub is_different : List (List ℕ) → ℕ → List ℕ → Bool
is_different all set text = not (is_ignored all set) && lacks_part (sent_at all set) text

-- what is sent for a set with an attribute lacks a parameter that the attribute alone adds to what is sent for none
abbrev pub LacksAttribute : List (List ℕ) → (set attribute : ℕ) → Type 0
LacksAttribute all set attribute =
    (bit_at set attribute ≡ 1)
    × IsTrue (lacks_new (parameters (sent_at all 0)) (parameters (sent_at all set)) (parameters (sent_at all (2 ^ attribute))))

-- it does so for some attribute
abbrev pub IsCombinationAt : List (List ℕ) → ℕ → Type 0
IsCombinationAt all set = (set < length all) × (attribute : ℕ) × (attribute < 9) × LacksAttribute all set attribute
