-- Tapes that give the same tokens.
use Rattle.std.proofs.Common.{◌≡◌, ◌∙◌, ℕ, Bool, IsTrue, List, [], ◌∷◌, sym, ap, subst}
use Rattle.std.specs.Prelude.{◌↔◌}
use Rattle.ti_cap.specs.declared.language.Token.{Token}
use Rattle.ti_cap.specs.Capability.{IsFirst, Spot, Takes}
use Rattle.ti_cap.specs.Refusal.{IsFaultless}
use Rattle.ti_cap.specs.Spelling.{Written}
use Rattle.ti_listing.specs.Differences.{HaveSameTokens}

-- the same tokens write both
abbrev pub GiveSame : List ℕ → List ℕ → Type 0
GiveSame one other = (ks : List Token) × Written ks one × Written ks other

same_rest : (k : Token) (ks rest other : List Token) → ks ≡ k ∷ rest → ks ≡ k ∷ other → rest ≡ other
same_rest k ks rest other e f = cc (e, f)

module _ (a a' b b' : Spot) where
  -- one token goes over on both
  pub same_taken : (k : Token) → Takes k a a' → IsFirst k a a' → Takes k b b' → IsFirst k b b' → GiveSame a.left b.left ↔ GiveSame a'.left b'.left
  same_taken k (s, spells, left, taken) first (t, spells_too, left_too, taken_too) first_too = (fore, back)
    where
      fore : GiveSame a.left b.left → GiveSame a'.left b'.left
      fore (ks, one, other) =
          let x = first ks one in
          let y = first_too ks other in
          let P : List Token → Type 0 = λ l. Written l b'.left in
          (x.0, x.2, subst P (sym (same_rest k ks x.0 y.0 x.1 y.1)) y.2)

      back : GiveSame a'.left b'.left → GiveSame a.left b.left
      back (ks, one, other) = (k ∷ ks, (s, a'.left, spells, one, left), (t, b'.left, spells_too, other, left_too))

-- capabilities have the same tokens exactly if their tapes give the same
pub have_same : (one other x y : List ℕ) (a b : Spot) (told : Bool) → x ≡ one → y ≡ other → a ≡ record { taken = []; left = x } → b ≡ record { taken = []; left = y } → IsFaultless one → IsFaultless other
    → (IsTrue told ↔ GiveSame a.left b.left) → IsTrue told ↔ HaveSameTokens one other
have_same one other x y a b told e f start start_too sound sound_too tests =
    let left : a.left ≡ one = ap (λ s. s.left) start ∙ e in
    let left_too : b.left ≡ other = ap (λ s. s.left) start_too ∙ f in
    let Test : List ℕ → List ℕ → Type 0 = λ l m. IsTrue told ↔ GiveSame l m in
    let same = subst (λ m. Test one m) left_too (subst (λ l. Test l b.left) left tests) in
    (λ h. (sound, sound_too, same.0 h), λ h. same.1 h.2)
