-- The digits of a number, from the first to the last.
use Rattle.std.proofs.Common.{◌≡◌, ◌≢◌, ℕ, zero, suc, ◌+◌, ◌*◌, ◌/◌, ◌%◌, ◌^◌, ◌<◌, ◌≤◌, Bool, true, false, cond, List, [], ◌∷◌, ◌++◌, length, map, refl, ap, sym, ◌∙◌, arith, append_assoc, append-nil, get_or, if◌then◌else◌}
use Rattle.std.proofs.Math.Dec.{eqb}
use Rattle.std.proofs.Math.Nat.{div-lt_iff_lt-mul, div-le_self, pow-suc, mul-le-mul_left}
use Rattle.std.proofs.lemmas.Bool.{eqb-true, eqb-false}
use Rattle.std.proofs.lemmas.List.{map-append, length-map}
use Rattle.std.specs.Prelude.{nat_lt}
use Rattle.std.specs.Fmt.{digit_glyph, digits_onto, digits}
use Rattle.std.specs.Int.Digits.{digits_of}
use Rattle.std.proofs.lemmas.Int.Digits.{digits_of_step, length-digits_of-le, first_digits_of}
use Rattle.ti_expand.specs.Printed.{significant}

digits_onto-nil : (base : ℕ) (upper : Bool) (n : ℕ) → digits_onto 64 base upper n [] ≡ digits base upper n
unfolding digits
digits_onto-nil base upper n = refl

-- a quotient by a base has room in one bit less
quotient_bits : (base i n : ℕ) → 2 ≤ base → n < 2 ^ suc i → n / base < 2 ^ i
quotient_bits base i n large h =
    let twice : 2 ^ suc i ≡ 2 ^ i * 2 = pow-suc 2 i in
    let more : 2 ^ i * 2 ≤ 2 ^ i * base = mul-le-mul_left (2 ^ i) large in
    (div-lt_iff_lt-mul {k = base} {x = n} {y = 2 ^ i} (omega arith)).1 (omega arith)

-- digits that do not start with a `0`
abbrev pub IsNoZero : List ℕ → Type 0
IsNoZero [] = Unit {0}
IsNoZero (d ∷ ds) = d ≢ 48

digit_not_zero : (upper : Bool) (d : ℕ) → 0 < d → digit_glyph upper d ≢ 48
digit_not_zero upper d some = by upper (nat_lt d 10)
  where
    by : (u t : Bool) → (if t then 48 + d else (if u then 55 + d else 87 + d)) ≢ 48
    by u true = λ e. omega arith
    by true false = λ e. omega arith
    by false false = λ e. omega arith

first_glyph : (upper : Bool) (ds : List ℕ) → 0 < get_or ds 0 0 → IsNoZero (map (digit_glyph upper) ds)
first_glyph upper [] h = tt
first_glyph upper (d ∷ ds) h = digit_not_zero upper d h

module _ (base : ℕ) (upper : Bool) (large : 2 ≤ base) where
  glyphs : ℕ → List ℕ
  glyphs n = map (digit_glyph upper) (digits_of base n)

  glyphs-step : (n : ℕ) → 0 < n → glyphs n ≡ glyphs (n / base) ++ digit_glyph upper (n % base) ∷ []
  unfolding glyphs
  glyphs-step n some = ap (map (digit_glyph upper)) (digits_of_step base n large some) ∙ map-append (digit_glyph upper) (digits_of base (n / base)) (n % base ∷ [])

  -- the digits before others: none are left, or some
  onto_by : (i n : ℕ) (acc : List ℕ) → 0 < n
      → (0 < n / base → digits_onto i base upper (n / base) (digit_glyph upper (n % base) ∷ acc) ≡ glyphs (n / base) ++ digit_glyph upper (n % base) ∷ acc)
      → (t : Bool) → eqb (n / base) 0 ≡ t
      → cond t (digit_glyph upper (n % base) ∷ acc) (digits_onto i base upper (n / base) (digit_glyph upper (n % base) ∷ acc)) ≡ glyphs n ++ acc
  unfolding glyphs
  onto_by i n acc some more true e =
      let none : n / base ≡ 0 = eqb-true (n / base) 0 e in
      let last : glyphs n ≡ glyphs 0 ++ digit_glyph upper (n % base) ∷ [] = glyphs-step n some ∙ ap (λ (q : ℕ). glyphs q ++ digit_glyph upper (n % base) ∷ []) none in
      ap (λ (x : List ℕ). x ++ acc) (sym last)
  onto_by i n acc some more false e =
      let ne : n / base ≢ 0 = eqb-false (n / base) 0 e in
      more (omega arith)
      ∙ sym (append_assoc (glyphs (n / base)) (digit_glyph upper (n % base) ∷ []) acc)
      ∙ ap (λ (x : List ℕ). x ++ acc) (sym (glyphs-step n some))

  onto : (i n : ℕ) (acc : List ℕ) → 0 < n → n < 2 ^ i → digits_onto i base upper n acc ≡ glyphs n ++ acc
  onto zero n acc some h = absurd (omega arith)
  onto (suc i) n acc some h =
      onto_by i n acc some (λ left. onto i (n / base) (digit_glyph upper (n % base) ∷ acc) left (quotient_bits base i n large h)) (eqb (n / base) 0) refl

  significant_by : (n : ℕ) (t : Bool) → n < 2 ^ 64 → eqb n 0 ≡ t → cond t [] (digits base upper n) ≡ glyphs n
  unfolding glyphs
  significant_by n true h e = ap (λ (k : ℕ). map (digit_glyph upper) (digits_of base k)) (sym (eqb-true n 0 e))
  significant_by n false h e =
      let ne : n ≢ 0 = eqb-false n 0 e in
      sym (digits_onto-nil base upper n) ∙ onto 64 n [] (omega arith) h ∙ append-nil (glyphs n)

  significant_is : (n : ℕ) → n < 2 ^ 64 → significant base upper n ≡ glyphs n
  significant_is n h = significant_by n (eqb n 0) h refl

  -- the digits of the quotient, and then the last digit
  pub significant-step : (n : ℕ) → 0 < n → n < 2 ^ 64 → significant base upper n ≡ significant base upper (n / base) ++ digit_glyph upper (n % base) ∷ []
  significant-step n some h =
      let less : n / base ≤ n = div-le_self n base in
      significant_is n h ∙ glyphs-step n some ∙ ap (λ (x : List ℕ). x ++ digit_glyph upper (n % base) ∷ []) (sym (significant_is (n / base) (omega arith)))

  pub length-significant-le : (k n : ℕ) → n < 2 ^ 64 → n < base ^ k → length (significant base upper n) ≤ k
  unfolding glyphs
  length-significant-le k n h small =
      let few : length (digits_of base n) ≤ k = length-digits_of-le base k n large small in
      let same : length (significant base upper n) ≡ length (digits_of base n) = ap length (significant_is n h) ∙ length-map (digits_of base n) (digit_glyph upper) in
      omega arith

  pub IsNoZero-significant : (n : ℕ) → n < 2 ^ 64 → IsNoZero (significant base upper n)
  unfolding glyphs
  IsNoZero-significant zero h = tt
  IsNoZero-significant (suc n) h = rw (significant_is (suc n) h) (first_glyph upper (digits_of base (suc n)) (first_digits_of base (suc n) large (omega arith)))
