-- Small numbers in decimal.
use Rattle.std.proofs.Common.{◌≡◌, ℕ, zero, suc, ◌+◌, ◌/◌, ◌%◌, ◌<◌, ◌≤◌, false, List, [], ◌∷◌, ◌++◌, refl, ap, ◌∙◌, arith}
use Rattle.std.specs.Fmt.{digit_glyph}
use Rattle.std.proofs.lemmas.Bool.Decides.{nat_tests}
use Rattle.ti_expand.specs.Printed.{significant, with_zeros}
use Rattle.ti_expand.specs.inner.Decimal.{decimal_digits}
use Rattle.ti_expand.proofs.SignificantLemmas.{significant-step}

-- the digits of the quotient, and then the last digit
glyph : (d : ℕ) → d < 10 → digit_glyph false d ≡ 48 + d
glyph d small = grind (arith, nat_tests)

step : (n : ℕ) → 0 < n → n < 1000 → significant 10 false n ≡ significant 10 false (n / 10) ++ (48 + n % 10) ∷ []
step n some small = significant-step 10 false (omega arith) n some (omega arith) ∙ ap (λ (g : ℕ). significant 10 false (n / 10) ++ g ∷ []) (glyph (n % 10) (omega arith))

one : (n : ℕ) → 0 < n → n < 10 → significant 10 false n ≡ (48 + n) ∷ []
one n some small =
    let none : n / 10 ≡ 0 = omega arith in
    let last : n % 10 ≡ n = omega arith in
    step n some (omega arith) ∙ rw (none, last) refl

two : (n : ℕ) → 10 ≤ n → n < 100 → significant 10 false n ≡ (48 + n / 10) ∷ (48 + n % 10) ∷ []
two n some small = step n (omega arith) (omega arith) ∙ ap (λ (x : List ℕ). x ++ (48 + n % 10) ∷ []) (one (n / 10) (omega arith) (omega arith))

three : (n : ℕ) → 100 ≤ n → n < 1000 → significant 10 false n ≡ (48 + n / 10 / 10) ∷ (48 + n / 10 % 10) ∷ (48 + n % 10) ∷ []
three n some small = step n (omega arith) (omega arith) ∙ ap (λ (x : List ℕ). x ++ (48 + n % 10) ∷ []) (two (n / 10) (omega arith) (omega arith))

pub decimal_digits-one : (n : ℕ) → n < 10 → decimal_digits n ≡ (48 + n) ∷ []
decimal_digits-one zero small = refl
decimal_digits-one (suc n) small = ap (with_zeros 1) (one (suc n) (omega arith) small)

pub decimal_digits-two : (n : ℕ) → 10 ≤ n → n < 100 → decimal_digits n ≡ (48 + n / 10) ∷ (48 + n % 10) ∷ []
decimal_digits-two n some small = ap (with_zeros 1) (two n some small)

pub decimal_digits-three : (n : ℕ) → 100 ≤ n → n < 1000 → decimal_digits n ≡ (48 + n / 10 / 10) ∷ (48 + n / 10 % 10) ∷ (48 + n % 10) ∷ []
decimal_digits-three n some small = ap (with_zeros 1) (three n some small)
