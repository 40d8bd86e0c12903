-- The places of tokens that are gone over one after another.
use Rattle.std.proofs.Common.{◌≡◌, ◌∙◌, ◌⊎◌, ℕ, inl, inr, List, [], ◌∷◌, ◌++◌, ap, sym, refl, subst, length, append_assoc}
use Rattle.std.proofs.lemmas.List.{append-nil}
use Rattle.ti_cap.specs.declared.language.Token.{Token}
use Rattle.ti_cap.specs.Capability.{Spot, Takes}
use Rattle.ti_rules.specs.Marks.{AreMarked, AreMarkedFrom}

-- whatever places are told of the tokens that are left, they come after those so far
pub record Marking (Holds : Spot → Token → Type 0) (text : List ℕ) (spot : Spot) (places : List ℕ) : Type 0 where
  pub goes : (rest : List Token) (more : List ℕ) → AreMarkedFrom Holds spot rest more → AreMarked Holds text (places ++ more)

pub marking_start : (Holds : Spot → Token → Type 0) (text : List ℕ) (spot : Spot) → spot ≡ record { taken = []; left = text } → Marking Holds text spot []
marking_start Holds text spot start = record {
  goes = λ rest more h. let P : Spot → Type 0 = λ s. AreMarkedFrom Holds s rest more in (rest, subst P start h);
}

-- the place is told if it holds of the token, and not if it does not
abbrev pub Told : Type 0 → ℕ → List ℕ → List ℕ → Type 0
Told Holds place old new = (Holds × (new ≡ old ++ place ∷ [])) ⊎ ((¬ Holds) × (new ≡ old))

pub marking_next : (Holds : Spot → Token → Type 0) (text : List ℕ) (spot next : Spot) (token : Token) (old new : List ℕ) → Takes token spot next
    → Told (Holds spot token) (length spot.taken) old new → Marking Holds text spot old → Marking Holds text next new
marking_next Holds text spot next token old new takes told m = record {
  goes = λ rest more h.
      let P : List ℕ → Type 0 = λ l. AreMarked Holds text l in
      let place = length spot.taken in
      elim told [
        | inl t ↦ subst P (sym (ap (λ l. l ++ more) t.1 ∙ append_assoc old (place ∷ []) more)) (m.goes (token ∷ rest) (place ∷ more) (next, more, takes, h, inl (t.0, refl)))
        | inr t ↦ subst P (sym (ap (λ l. l ++ more) t.1)) (m.goes (token ∷ rest) more (next, more, takes, h, inr (t.0, refl)))
      ];
}

pub marking_end : (Holds : Spot → Token → Type 0) (text : List ℕ) (spot : Spot) (places : List ℕ) → spot.left ≡ [] → Marking Holds text spot places → AreMarked Holds text places
marking_end Holds text spot places end m = let P : List ℕ → Type 0 = λ l. AreMarked Holds text l in subst P (append-nil places) (m.goes [] [] (end, refl))
