-- Places that are found one after another.
use Rattle.std.proofs.Common.{◌≡◌, ◌∙◌, ◌+◌, ◌≤◌, ◌⊎◌, inl, inr, arith, nat_eq, IsTrue, length, drop, ℕ, List, [], ◌∷◌, ◌++◌, ap, sym, subst, append_assoc}
use Rattle.std.specs.List.{starts_with}
use Rattle.std.specs.Prelude.{codes}
use Rattle.std.proofs.lemmas.List.{append-nil, drop_all}
use Rattle.ti_rules.specs.Marks.{ArePlacesFrom, IsSought}
use Rattle.ti_rules.specs.declared.marks.Sought.{Sought}
use Rattle.ti_rules.specs.declared.marks.Sought.TheVariants.{Percents, Mark, FalseMark}

-- whatever places there are from one on, they come after those so far
pub record Placing (Holds : ℕ → Type 0) (from : ℕ) (places : List ℕ) : Type 0 where
  pub goes : (more : List ℕ) → ArePlacesFrom Holds from more → ArePlacesFrom Holds 0 (places ++ more)

pub placing_start : (Holds : ℕ → Type 0) → Placing Holds 0 []
placing_start Holds = record { goes = λ more h. h }

apart : (a b : ℕ) → a ≤ b → (a ≡ b) ⊎ (a + 1 ≤ b)
apart a b low = grind arith

-- it holds of no place from one on, if not of this one, and of none after it
none_from : (Holds : ℕ → Type 0) (from other : ℕ) → ¬ Holds from → (from + 1 ≤ other → ¬ Holds other) → from ≤ other → ¬ Holds other
none_from Holds from other never after low = elim (apart from other low) [
  | inl is ↦ subst (λ n. ¬ Holds n) is never
  | inr above ↦ after above
]

later : (Holds : ℕ → Type 0) (from : ℕ) (places : List ℕ) → ¬ Holds from → ArePlacesFrom Holds (from + 1) places → ArePlacesFrom Holds from places
later Holds from [] never none = λ other. none_from Holds from other never (none other)
later Holds from (place ∷ places) never (low, holds, first, rest) =
    (omega (arith, low), holds, λ other above before. none_from Holds from other never (λ more. first other more before) above, rest)

-- it holds of the next place, or it does not
pub placing_next : (Holds : ℕ → Type 0) (place : ℕ) (old new : List ℕ) → (Holds place × (new ≡ old ++ place ∷ [])) ⊎ ((¬ Holds place) × (new ≡ old))
    → Placing Holds place old → Placing Holds (place + 1) new
placing_next Holds place old new (inl (holds, is)) p = record {
  goes = λ more h.
      let P : List ℕ → Type 0 = λ l. ArePlacesFrom Holds 0 l in
      subst P (sym (ap (λ l. l ++ more) is ∙ append_assoc old (place ∷ []) more)) (p.goes (place ∷ more) (omega arith, holds, λ other low before. absurd (omega (arith, low, before)), h));
}
placing_next Holds place old new (inr (never, is)) p = record {
  goes = λ more h. subst (λ l. ArePlacesFrom Holds 0 (l ++ more)) (sym is) (p.goes more (later Holds place more never h));
}

pub placing_end : (Holds : ℕ → Type 0) (from : ℕ) (places : List ℕ) → ((other : ℕ) → from ≤ other → ¬ Holds other) → Placing Holds from places → ArePlacesFrom Holds 0 places
placing_end Holds from places none p = let P : List ℕ → Type 0 = λ l. ArePlacesFrom Holds 0 l in subst P (append-nil places) (p.goes [] none)

starts_none : (bytes front : List ℕ) (byte place : ℕ) → length bytes ≤ place → ¬ IsTrue (starts_with nat_eq (drop place bytes) (byte ∷ front))
starts_none bytes front byte place past at =
    let P : List ℕ → Type 0 = λ rest. IsTrue (starts_with nat_eq rest (byte ∷ front)) in
    cc (subst P (drop_all place bytes past) at)

-- nothing stands at the end
pub none_after : (text : List ℕ) (sought : Sought) (place : ℕ) → length text ≤ place → ¬ IsSought text sought place
none_after text Percents place past at = starts_none text (codes "%") 0x25 place past at
none_after text Mark place past (m, stands) = cc (sym (drop_all place text past) ∙ stands.bytes_are)
none_after text FalseMark place past at = starts_none text (codes "<") 0x24 place past at.0
