-- Sets of parameters by their bits.
use Rattle.std.proofs.Common.{◌≡◌, ◌≢◌, ℕ, zero, suc, ◌-◌, ◌*◌, ◌%◌, ◌^◌, ◌<◌, ◌≤◌, max, ◌⊎◌, inl, inr, ◌↔◌, not, IsTrue, nat_eq, bit_and, bit_or, refl, sym, ◌∙◌, ap, subst, arith}
use Rattle.std.specs.Int.{bit_at}
use Rattle.std.proofs.lemmas.Nat.{one_shl, pow_pos}
use Rattle.std.proofs.lemmas.Nat.Bits.{and_pow, bit_at-lt, bit_at_above, bit_at_or, bit_at-zero, bit_at-pow_same, bit_at-pow_other}
use Rattle.ti_cap.specs.declared.parameter_set.ParameterSet.{ParameterSet}
use Rattle.ti_cap.specs.Sources.{Has}
use Rattle.ti_cap.specs.inner.Gathering.{no_parameter, united, only}

-- the test of one bit
pub bit_tested : (set : ParameterSet) (which : ℕ) → 1 ≤ which → which ≤ 16
    → IsTrue (not (nat_eq (bit_and set.mask (1 * 2 ^ (which - 1) % 65536)) 0)) ↔ Has set which
bit_tested set which low high = (there, found)
  where
    is : bit_and set.mask (1 * 2 ^ (which - 1) % 65536) ≡ bit_at set.mask (which - 1) * 2 ^ (which - 1)
    is = ap (λ x. bit_and set.mask x) (one_shl (which - 1) 16 (omega arith)) ∙ and_pow set.mask (which - 1)

    some : (x p : ℕ) → x < 2 → IsTrue (not (nat_eq (x * p) 0)) → x ≡ 1
    some zero p h t = absurd (grind arith)
    some (suc zero) p h t = refl
    some (suc (suc x)) p h t = absurd (omega arith)

    there : IsTrue (not (nat_eq (bit_and set.mask (1 * 2 ^ (which - 1) % 65536)) 0)) → Has set which
    there t = (low, some _ _ (bit_at-lt set.mask (which - 1)) (let P : ℕ → Type 0 = λ x. IsTrue (not (nat_eq x 0)) in subst P is t))

    positive : (x : ℕ) → 0 < x → IsTrue (not (nat_eq x 0))
    positive x h = grind arith

    found : Has set which → IsTrue (not (nat_eq (bit_and set.mask (1 * 2 ^ (which - 1) % 65536)) 0))
    found h = positive _ (omega (arith, is, ap (λ x. x * 2 ^ (which - 1)) h.1, pow_pos (which - 1)))

pub none_above : (set : ParameterSet) (which : ℕ) → set.mask < 2 ^ 16 → 16 < which → ¬ Has set which
none_above set which fits high h = omega (arith, h.1, bit_at_above set.mask 16 (which - 1) fits (omega arith))

pub has_none : (which : ℕ) → ¬ Has no_parameter which
has_none which h = omega (arith, h.1, bit_at-zero (which - 1))

pub has_united : (a b : ParameterSet) (which : ℕ) → Has (united a b) which ↔ (Has a which ⊎ Has b which)
has_united a b which = (apart, together)
  where
    is : bit_at (bit_or a.mask b.mask) (which - 1) ≡ max (bit_at a.mask (which - 1)) (bit_at b.mask (which - 1))
    is = bit_at_or a.mask b.mask (which - 1)

    either : (x y : ℕ) → max x y ≡ 1 → (x ≡ 1) ⊎ (y ≡ 1)
    either x y e = grind arith

    apart : Has (united a b) which → Has a which ⊎ Has b which
    apart h = elim (either _ _ (sym is ∙ h.1)) [ inl e ↦ inl (h.0, e) | inr e ↦ inr (h.0, e) ]

    together : Has a which ⊎ Has b which → Has (united a b) which
    together (inl h) = (h.0, omega (arith, is, h.1, bit_at-lt b.mask (which - 1)))
    together (inr h) = (h.0, omega (arith, is, h.1, bit_at-lt a.mask (which - 1)))

pub has_only : (one which : ℕ) → 1 ≤ one → Has (only one) which ↔ (one ≡ which)
has_only one which low = (same, itself)
  where
    near : (a b : ℕ) → (a ≡ b) ⊎ (a ≢ b)
    near a b = grind arith

    same : Has (only one) which → one ≡ which
    same h = elim (near (which - 1) (one - 1)) [
      | inl e ↦ omega (arith, h.0)
      | inr n ↦ absurd (omega (arith, h.1, bit_at-pow_other (one - 1) (which - 1) n))
    ]

    itself : one ≡ which → Has (only one) which
    itself e = let P : ℕ → Type 0 = λ x. Has (only one) x in subst P e (low, bit_at-pow_same (one - 1))
