-- Sets of variables by their bits.
use Rattle.std.proofs.Common.{◌≡◌, ◌≢◌, ℕ, ◌+◌, ◌-◌, ◌^◌, ◌≤◌, max, ◌⊎◌, inl, inr, ◌↔◌, bit_or, sym, ◌∙◌, subst, arith}
use Rattle.std.specs.Int.{bit_at}
use Rattle.std.proofs.lemmas.Nat.Bits.{bit_at_or, bit_at-lt, bit_at-zero, bit_at-pow_same, bit_at-pow_other}
use Rattle.ti_cap.specs.Spelling.{IsLetter}
use Rattle.ti_lint.specs.declared.variables.Variables.{Variables}
use Rattle.ti_lint.specs.Variables.{HasOnlyLetters, HasVariable}
use Rattle.ti_lint.specs.inner.Facts.{place_of, stored_also, either_set}

larger : (x y : ℕ) → max x y ≡ 1 → (x ≡ 1) ⊎ (y ≡ 1)
larger x y e = grind arith

pub has_either_set : (a b : Variables) (which : ℕ) → HasVariable (either_set a b) which ↔ (HasVariable a which ⊎ HasVariable b which)
has_either_set a b which = (apart, together)
  where
    is : bit_at (bit_or a.mask b.mask) (which - 65) ≡ max (bit_at a.mask (which - 65)) (bit_at b.mask (which - 65))
    is = bit_at_or a.mask b.mask (which - 65)

    apart : HasVariable (either_set a b) which → HasVariable a which ⊎ HasVariable b which
    apart h = elim (larger _ _ (sym is ∙ h.1)) [ inl e ↦ inl (h.0, e) | inr e ↦ inr (h.0, e) ]

    together : HasVariable a which ⊎ HasVariable b which → HasVariable (either_set a b) which
    together (inl h) = (h.0, omega (arith, is, h.1, bit_at-lt b.mask (which - 65)))
    together (inr h) = (h.0, omega (arith, is, h.1, bit_at-lt a.mask (which - 65)))

pub has_no_variable : (which : ℕ) → ¬ HasVariable (record { mask = 0 }) which
has_no_variable which h = omega (arith, h.1, bit_at-zero (which - 65))

above : (which : ℕ) → IsLetter which → 65 ≤ which
above which (inl a) = omega (arith, a.0)
above which (inr a) = omega (arith, a.0)

-- with one variable more
pub has_stored_also : (one : ℕ) (set : Variables) (which : ℕ) → IsLetter one → HasVariable (stored_also one set) which ↔ (HasVariable set which ⊎ (one ≡ which))
has_stored_also one set which letter = (apart, together)
  where
    is : bit_at (bit_or set.mask (2 ^ place_of one)) (which - 65) ≡ max (bit_at set.mask (which - 65)) (bit_at (2 ^ place_of one) (which - 65))
    is = bit_at_or set.mask (2 ^ place_of one) (which - 65)

    near : (a b : ℕ) → (a ≡ b) ⊎ (a ≢ b)
    near a b = grind arith

    apart : HasVariable (stored_also one set) which → HasVariable set which ⊎ (one ≡ which)
    apart h = elim (near (which - 65) (one - 65)) [
      | inl e ↦ inr (omega (arith, above one letter, above which h.0))
      | inr away ↦ inl (h.0, omega (arith, is, h.1, bit_at-pow_other (one - 65) (which - 65) away))
    ]

    together : HasVariable set which ⊎ (one ≡ which) → HasVariable (stored_also one set) which
    together (inl h) = (h.0, omega (arith, is, h.1, bit_at-lt (2 ^ place_of one) (which - 65)))
    together (inr e) = let P : ℕ → Type 0 = λ x. HasVariable (stored_also one set) x in subst P e (letter, same)
      where
        same : bit_at (bit_or set.mask (2 ^ place_of one)) (one - 65) ≡ 1
        same = omega (arith, bit_at_or set.mask (2 ^ place_of one) (one - 65), bit_at-pow_same (one - 65), bit_at-lt set.mask (one - 65))

-- ---- no bit but those for letters

pub none_only_letters : HasOnlyLetters (record { mask = 0 })
none_only_letters place h = absurd (omega (arith, h, bit_at-zero place))

pub either_only_letters : (a b : Variables) → HasOnlyLetters a → HasOnlyLetters b → HasOnlyLetters (either_set a b)
either_only_letters a b p q place h = elim (larger _ _ (sym (bit_at_or a.mask b.mask place) ∙ h)) [ inl e ↦ p place e | inr e ↦ q place e ]

pub stored_also_only_letters : (one : ℕ) (set : Variables) → IsLetter one → HasOnlyLetters set → HasOnlyLetters (stored_also one set)
stored_also_only_letters one set letter only place h = elim (larger _ _ (sym (bit_at_or set.mask (2 ^ place_of one) place) ∙ h)) [ inl e ↦ only place e | inr e ↦ added e ]
  where
    near : (a b : ℕ) → (a ≡ b) ⊎ (a ≢ b)
    near a b = grind arith

    added : bit_at (2 ^ place_of one) place ≡ 1 → IsLetter (place + 65)
    added e = elim (near place (one - 65)) [
      | inl is ↦ let same : one ≡ place + 65 = omega (arith, is, above one letter) in subst IsLetter same letter
      | inr away ↦ absurd (omega (arith, e, bit_at-pow_other (one - 65) place away))
    ]
