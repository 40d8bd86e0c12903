-- What a reading tells of the tests on its way.
use Rattle.std.proofs.Common.{◌≡◌, ℕ, ◌⊎◌, inl, inr, List, [], ◌∷◌, refl, ◌∙◌, ap, subst, cond, Bool, true, false, nat_eq, Ok, Err}
use Rattle.std.specs.Prelude.{Some, None}
use Rattle.std.specs.List.{AllByRecursion}
use Rattle.std.proofs.lemmas.Bool.{eqb-true}
use Rattle.ti_cap.specs.declared.language.Token.{Token}
use Rattle.ti_cap.specs.declared.language.CapFault.{CapFault}
use Rattle.ti_cap.specs.inner.Lexer.{Lexeme, with_letter}

-- which way a test went
pub chosen : {A : Type 0} (v : Bool) {x y z : A} → cond v x y ≡ z → ((v ≡ true) × (x ≡ z)) ⊎ ((v ≡ false) × (y ≡ z))
chosen true e = inl (refl, e)
chosen false e = inr (refl, e)

-- an error stays where it stays in both cases
pub still : (v : Bool) (x y x' y' : Lexeme) (f : CapFault) → (x ≡ Err f → x' ≡ Err f) → (y ≡ Err f → y' ≡ Err f)
    → cond v x y ≡ Err f → cond v x' y' ≡ Err f
still true x y x' y' f p q e = p e
still false x y x' y' f p q e = q e

-- what has been found has the letter
pub letter_found : {X : Type 0} (letter : X → ℕ) (xs : List X) (c : ℕ) (x : X) → with_letter letter xs c ≡ Some x → c ≡ letter x
letter_found letter [] c x e = absurd (cc)
letter_found letter (y ∷ ys) c x e =
    elim (chosen (nat_eq c (letter y)) e) [
      | inl (t, e) ↦ let same : y ≡ x = cc in let is : c ≡ letter y = eqb-true c (letter y) t in cc
      | inr (t, e) ↦ letter_found letter ys c x e
    ]

-- and is one of those in which all have this
pub letter_holds : {X : Type 0} (letter : X → ℕ) (P : X → Type 0) (xs : List X) (c : ℕ) (x : X) → AllByRecursion P xs → with_letter letter xs c ≡ Some x → P x
letter_holds letter P [] c x all e = absurd (cc)
letter_holds letter P (y ∷ ys) c x all e =
    elim (chosen (nat_eq c (letter y)) e) [
      | inl (t, e) ↦ let same : y ≡ x = cc in subst P same all.0
      | inr (t, e) ↦ letter_holds letter P ys c x all.1 e
    ]

-- a test tells two numbers apart
pub apart : (p : ℕ → Bool) (c d : ℕ) → p c ≡ true → p d ≡ false → nat_eq c d ≡ false
apart p c d h g = by_test (nat_eq c d) refl
  where
    by_test : (b : Bool) → nat_eq c d ≡ b → b ≡ false
    by_test true t = let same : p c ≡ p d = ap p (eqb-true c d t) in absurd (cc)
    by_test false t = refl

-- nothing is found for a letter that a test tells from all letters
pub letter_missed : {X : Type 0} (letter : X → ℕ) (p : ℕ → Bool) (xs : List X) (c : ℕ) → p c ≡ true → AllByRecursion (λ x. p (letter x) ≡ false) xs
    → with_letter letter xs c ≡ None
letter_missed letter p [] c h all = refl
letter_missed letter p (y ∷ ys) c h all = ap (λ b. cond b (Some y) (with_letter letter ys c)) (apart p c (letter y) h all.0) ∙ letter_missed letter p ys c h all.1

-- what two equal readings are of
pub pair_of : (a b : Token × ℕ) (x y : Lexeme) → x ≡ Ok a → y ≡ Ok b → x ≡ y → a ≡ b
pair_of a b x y p q e = cc
