-- The places of a text at which something is so.
use Rattle.std.specs.Prelude.{◌≡◌, ℕ, suc, Bool, Option, None, Some, if◌then◌else◌, option_map, ◌+◌, ◌<◌, ◌≤◌, ◌⊎◌, List, [], ◌∷◌, length}
use Rattle.ti_cap.specs.declared.language.Token.{Token}
use Rattle.ti_cap.specs.Capability.{Spot, Takes}
use Rattle.ti_lint.specs.declared.token_finding.TokenFinding.{TokenFinding}
use Rattle.ti_lint.specs.declared.placed_finding.PlacedFinding.{PlacedFinding}
use Rattle.ti_lint.specs.Marks.{IsMark, IsFalseMark}
use Rattle.ti_lint.specs.Plain.{IsDoublePercent}
use Rattle.ti_rules.specs.declared.marks.Sought.{Sought}
use Rattle.ti_rules.specs.declared.marks.Sought.TheVariants.{Percents, Mark, FalseMark}

-- ---- of the tokens of a capability

-- the place is among those told exactly if it is so
abbrev pub IsToldIf : Type 0 → ℕ → List ℕ → List ℕ → Type 0
IsToldIf Holds place places more = (Holds × (places ≡ place ∷ more)) ⊎ ((¬ Holds) × (places ≡ more))

-- the tokens write the bytes that are left, and the places are those of the tokens of which it holds
abbrev pub AreMarkedFrom : (Spot → Token → Type 0) → Spot → List Token → List ℕ → Type 0
AreMarkedFrom Holds spot [] places = (spot.left ≡ []) × (places ≡ [])
AreMarkedFrom Holds spot (token ∷ rest) places =
    (next : Spot) × (more : List ℕ) × Takes token spot next × AreMarkedFrom Holds next rest more
    × IsToldIf (Holds spot token) (length spot.taken) places more

-- the same of all tokens of a text
abbrev pub AreMarked : (Spot → Token → Type 0) → List ℕ → List ℕ → Type 0
AreMarked Holds text places =
    (all : List Token) × AreMarkedFrom Holds (record { taken = []; left = text }) all places

-- ---- of findings

-- the places of those that are this one
abbrev pub ArePlacesOf : TokenFinding → List PlacedFinding → List ℕ → Type 0
ArePlacesOf finding [] places = places ≡ []
ArePlacesOf finding (one ∷ rest) places =
    (more : List ℕ) × ArePlacesOf finding rest more × IsToldIf (one.finding ≡ finding) one.place places more

-- ---- of bytes

-- two percent signs, a padding mark, or a `$<` that starts none, stand at the place
abbrev pub IsSought : List ℕ → Sought → ℕ → Type 0
IsSought text Percents place = IsDoublePercent text place
IsSought text Mark place = IsMark text place
IsSought text FalseMark place = IsFalseMark text place

-- the places from one on at which it is so, in order, and no others
abbrev pub ArePlacesFrom : (ℕ → Type 0) → ℕ → List ℕ → Type 0
ArePlacesFrom Holds from [] = (other : ℕ) → from ≤ other → ¬ Holds other
ArePlacesFrom Holds from (place ∷ places) =
    (from ≤ place) × Holds place × ((other : ℕ) → from ≤ other → other < place → ¬ Holds other)
    × ArePlacesFrom Holds (place + 1) places

-- the first place from which the bytes pass a test
abbrev pub first_place : (List ℕ → Bool) → List ℕ → Option ℕ
first_place test [] = None
first_place test (byte ∷ rest) = if test (byte ∷ rest) then Some 0 else option_map (λ at. suc at) (first_place test rest)
