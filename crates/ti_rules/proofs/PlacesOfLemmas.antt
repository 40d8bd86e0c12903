-- The places of one finding among several.
use Rattle.std.proofs.Common.{◌≡◌, ◌∙◌, ◌+◌, ◌<◌, ◌≤◌, ℕ, suc, inl, inr, List, [], ◌∷◌, ◌++◌, ap, add-one, append_assoc, drop, drop-cons, get_or, length, refl, subst, sym}
use Rattle.std.proofs.lemmas.List.{append-nil, drop_all}
use Rattle.ti_lint.specs.declared.token_finding.TokenFinding.{TokenFinding}
use Rattle.ti_lint.specs.declared.placed_finding.PlacedFinding.{PlacedFinding}
use Rattle.ti_rules.specs.Marks.{ArePlacesOf}
use Rattle.ti_rules.proofs.MarkedLemmas.{Told}

-- whatever places come of those from an index on, they come after these
pub record Going (finding : TokenFinding) (founds : List PlacedFinding) (index : ℕ) (places : List ℕ) : Type 0 where
  pub goes : (more : List ℕ) → ArePlacesOf finding (drop index founds) more → ArePlacesOf finding founds (places ++ more)

pub going_start : (finding : TokenFinding) (founds : List PlacedFinding) → Going finding founds 0 []
going_start finding founds = record { goes = λ more h. h }

pub going_next : (finding : TokenFinding) (founds : List PlacedFinding) (index : ℕ) (d : PlacedFinding) (old new : List ℕ) → index < length founds
    → Told ((get_or founds index d).finding ≡ finding) (get_or founds index d).place old new → Going finding founds index old → Going finding founds (index + 1) new
going_next finding founds index d old new within told g = record {
  goes = λ more h.
      let one = get_or founds index d in
      let P : List ℕ → Type 0 = λ l. ArePlacesOf finding founds l in
      let Q : ℕ → Type 0 = λ k. ArePlacesOf finding (drop k founds) more in
      let rest = subst Q (add-one index) h in
      let front : (l : List ℕ) → ArePlacesOf finding (one ∷ drop (suc index) founds) l → ArePlacesOf finding (drop index founds) l =
      λ l k. let R : List PlacedFinding → Type 0 = λ xs. ArePlacesOf finding xs l in subst R (sym (drop-cons founds index d within)) k in
      elim told [
        | inl t ↦ subst P (sym (ap (λ l. l ++ more) t.1 ∙ append_assoc old (one.place ∷ []) more)) (g.goes (one.place ∷ more) (front (one.place ∷ more) (more, rest, inl (t.0, refl))))
        | inr t ↦ subst P (sym (ap (λ l. l ++ more) t.1)) (g.goes more (front more (more, rest, inr (t.0, refl))))
      ];
}

pub going_end : (finding : TokenFinding) (founds : List PlacedFinding) (index : ℕ) (places : List ℕ) → length founds ≤ index → Going finding founds index places → ArePlacesOf finding founds places
going_end finding founds index places end g =
    let P : List ℕ → Type 0 = λ l. ArePlacesOf finding founds l in
    let Q : List PlacedFinding → Type 0 = λ xs. ArePlacesOf finding xs [] in
    subst P (append-nil places) (g.goes [] (subst Q (sym (drop_all index founds end)) refl))
