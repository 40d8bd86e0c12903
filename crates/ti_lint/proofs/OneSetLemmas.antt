-- Sets with the same members are one.
use Rattle.std.proofs.Common.{◌≡◌, ℕ, zero, suc, ◌+◌, ◌-◌, ◌<◌, ◌↔◌, refl, sym, ◌∙◌, ap, arith}
use Rattle.std.specs.Int.{bit_at}
use Rattle.std.proofs.lemmas.Nat.Bits.{bit_at-lt, same_from_bits}
use Rattle.ti_cap.specs.declared.parameter_set.ParameterSet.{ParameterSet}
use Rattle.ti_cap.specs.Sources.{Has}
use Rattle.ti_lint.specs.declared.variables.Variables.{Variables}
use Rattle.ti_lint.specs.Variables.{HasOnlyLetters, HasVariable}

-- two bits are the same if one is 1 exactly if the other is
same_bit : (x y : ℕ) → x < 2 → y < 2 → (x ≡ 1 → y ≡ 1) → (y ≡ 1 → x ≡ 1) → x ≡ y
same_bit zero zero p q there back = refl
same_bit zero (suc zero) p q there back = back refl
same_bit (suc zero) y p q there back = sym (there refl)
same_bit zero (suc (suc y)) p q there back = absurd (omega arith)
same_bit (suc (suc x)) y p q there back = absurd (omega arith)

same_masks : (a b : ℕ) → ((place : ℕ) → (bit_at a place ≡ 1) ↔ (bit_at b place ≡ 1)) → a ≡ b
same_masks a b same = same_from_bits a b (λ place. same_bit (bit_at a place) (bit_at b place) (bit_at-lt a place) (bit_at-lt b place) (same place).0 (same place).1)

back_down : (place count : ℕ) → place + count - count ≡ place
back_down place count = omega arith

pub one_variables : (a b : Variables) → HasOnlyLetters a → HasOnlyLetters b → ((which : ℕ) → HasVariable a which ↔ HasVariable b which) → a ≡ b
one_variables a b mine theirs same = ap (λ x. record { mask = x }) (same_masks a.mask b.mask (λ place. (along a b mine (λ which. (same which).0) place, along b a theirs (λ which. (same which).1) place)))
  where
    along : (s t : Variables) → HasOnlyLetters s → ((which : ℕ) → HasVariable s which → HasVariable t which) → (place : ℕ) → bit_at s.mask place ≡ 1 → bit_at t.mask place ≡ 1
    along s t only there place e =
        ap (λ x. bit_at t.mask x) (sym (back_down place 65)) ∙ (there (place + 65) (only place e, ap (λ x. bit_at s.mask x) (back_down place 65) ∙ e)).1

pub one_parameter_set : (a b : ParameterSet) → ((which : ℕ) → Has a which ↔ Has b which) → a ≡ b
one_parameter_set a b same = ap (λ x. record { mask = x }) (same_masks a.mask b.mask (λ place. (along a b (λ which. (same which).0) place, along b a (λ which. (same which).1) place)))
  where
    along : (s t : ParameterSet) → ((which : ℕ) → Has s which → Has t which) → (place : ℕ) → bit_at s.mask place ≡ 1 → bit_at t.mask place ≡ 1
    along s t there place e =
        ap (λ x. bit_at t.mask x) (sym (back_down place 1)) ∙ (there (place + 1) (omega arith, ap (λ x. bit_at s.mask x) (back_down place 1) ∙ e)).1
