-- The parameters up to a count that are not in a set, by their bits.
use Rattle.std.proofs.Common.{◌≡◌, ℕ, zero, suc, ◌-◌, ◌*◌, ◌%◌, ◌^◌, ◌<◌, ◌≤◌, min, ◌⊎◌, inl, inr, ◌↔◌, bit_and, refl, ◌∙◌, ap, arith}
use Rattle.std.specs.Int.{bit_at, w16}
use Rattle.std.proofs.lemmas.Nat.{one_shl}
use Rattle.std.proofs.lemmas.Nat.Bits.{bit_at_and, bit_at-lt, bit_at_not, bit_at_ones, bit_at_ones_above}
use Rattle.ti_cap.specs.declared.parameter_set.ParameterSet.{ParameterSet}
use Rattle.ti_cap.specs.Sources.{Has}

pub has_unused : (set : ParameterSet) (count which : ℕ) → set.mask < 65536 → count ≤ 9
    → Has (record { mask = bit_and (1 * 2 ^ count % 65536 - 1) (65535 - set.mask) }) which ↔ ((1 ≤ which) × (which ≤ count) × ¬ Has set which)
has_unused set count which fits few = (there, back)
  where
    ones : 1 * 2 ^ count % 65536 ≡ 2 ^ count
    ones = one_shl count 16 (omega arith)

    is : bit_at (bit_and (1 * 2 ^ count % 65536 - 1) (65535 - set.mask)) (which - 1) ≡ min (bit_at (2 ^ count - 1) (which - 1)) (bit_at (65535 - set.mask) (which - 1))
    is = ap (λ x. bit_at (bit_and (x - 1) (65535 - set.mask)) (which - 1)) ones ∙ bit_at_and (2 ^ count - 1) (65535 - set.mask) (which - 1)

    near : (a b : ℕ) → (a < b) ⊎ (b ≤ a)
    near a b = grind arith

    turned : which - 1 < 16 → bit_at (65535 - set.mask) (which - 1) ≡ 1 - bit_at set.mask (which - 1)
    turned low = bit_at_not w16 set.mask (which - 1) fits low

    there : Has (record { mask = bit_and (1 * 2 ^ count % 65536 - 1) (65535 - set.mask) }) which → (1 ≤ which) × (which ≤ count) × ¬ Has set which
    there h = elim (near (which - 1) count) [
      | inl low ↦ (h.0, omega arith, (λ g. absurd (omega (arith, is, h.1, turned (omega arith), g.1))))
      | inr high ↦ absurd (omega (arith, is, h.1, bit_at_ones_above count (which - 1) high))
    ]

    back : (1 ≤ which) × (which ≤ count) × ¬ Has set which → Has (record { mask = bit_and (1 * 2 ^ count % 65536 - 1) (65535 - set.mask) }) which
    back (low, high, none) = (low, by (bit_at set.mask (which - 1)) refl (bit_at-lt set.mask (which - 1)))
      where
        by : (x : ℕ) → bit_at set.mask (which - 1) ≡ x → x < 2 → bit_at (bit_and (1 * 2 ^ count % 65536 - 1) (65535 - set.mask)) (which - 1) ≡ 1
        by zero e lt = omega (arith, is, bit_at_ones count (which - 1) (omega arith), turned (omega arith), e)
        by (suc zero) e lt = absurd (none (low, e))
        by (suc (suc x)) e lt = absurd (omega arith)
