-- The parts of a format that is being read.
use Rattle.std.proofs.Common.{◌≡◌, ◌≢◌, ℕ, ◌≤◌, inl, inr, List, [], ◌∷◌, refl, sym, subst, arith, nat_lt, cond, Bool, true, false}
use Rattle.std.specs.Prelude.{Option}
use Rattle.std.proofs.lemmas.Grind.{common_steps}
use Rattle.std.specs.List.{AllByRecursion}
use Rattle.ti_base.specs.Limits.{greatest_width}
use Rattle.ti_cap.specs.declared.language.Format.{Format}
use Rattle.ti_cap.specs.declared.language.Conversion.{Conversion}
use Rattle.ti_cap.specs.Spelling.{IsDigit, number_of, IsPlainFlag, IsFlag, SpellsWidth}
use Rattle.ti_cap.specs.inner.Lexer.{front, rest, is_digit, is_plain_flag, is_flag}
use Rattle.ti_cap.proofs.FrontLemmas.{Stops, AllPass, front_passes, rest_ends}

-- the format so far, with what is read after it
abbrev pub with_precision : Format → Option ℕ → Conversion → Format
with_precision f p c = record f { precision = p; conversion = c }

abbrev pub with_width : Format → ℕ → Option ℕ → Conversion → Format
with_width f w p c = record f { width = w; precision = p; conversion = c }

pub fits : (n : ℕ) → nat_lt greatest_width n ≡ false → n ≤ greatest_width
fits n h = grind (arith, common_steps)

pub passes_digits : (ds : List ℕ) → AllPass is_digit ds → AllByRecursion IsDigit ds
passes_digits [] h = tt
passes_digits (d ∷ ds) h = let t : is_digit d ≡ true = h.0 in ((grind (arith, common_steps, t), grind (arith, common_steps, t)), passes_digits ds h.1)

plain_flag_is : (c : ℕ) → is_plain_flag c ≡ true → IsPlainFlag c
plain_flag_is c t = grind (arith, common_steps, t)

flag_is : (c : ℕ) → is_flag c ≡ true → IsFlag c
flag_is c t = grind (arith, common_steps, t)

pub passes_plain_flags : (fl : List ℕ) → AllPass is_plain_flag fl → AllByRecursion IsPlainFlag fl
passes_plain_flags [] h = tt
passes_plain_flags (c ∷ fl) h = (plain_flag_is c h.0, passes_plain_flags fl h.1)

pub passes_flags : (fl : List ℕ) → AllPass is_flag fl → AllByRecursion IsFlag fl
passes_flags [] h = tt
passes_flags (c ∷ fl) h = (flag_is c h.0, passes_flags fl h.1)

-- these bytes begin with no 0
abbrev pub NoZero : List ℕ → Type 0
NoZero [] = Unit {0}
NoZero (c ∷ cs) = c ≢ 48

pub flags_follow : (p : ℕ → Bool) → ((c : ℕ) → p c ≡ false → c ≢ 48) → (bytes : List ℕ) → NoZero (rest p bytes)
flags_follow p other bytes =
    elim (rest_ends p bytes) [
      | inl e ↦ let P : List ℕ → Type 0 = λ x. NoZero x in subst P (sym e) tt
      | inr h ↦ stopped (rest p bytes) h
    ]
  where
    stopped : (xs : List ℕ) → Stops p xs → NoZero xs
    stopped [] h = tt
    stopped (c ∷ cs) h = other c h

pub plain_flag_other : (c : ℕ) → is_plain_flag c ≡ false → c ≢ 48
plain_flag_other c f e = absurd (grind (arith, common_steps, f, e))

pub flag_other : (c : ℕ) → is_flag c ≡ false → c ≢ 48
flag_other c f e = absurd (grind (arith, common_steps, f, e))

-- the digits at the front are a width
pub width_spelled : (bytes : List ℕ) → NoZero bytes → number_of (front is_digit bytes) ≤ greatest_width → SpellsWidth (number_of (front is_digit bytes)) (front is_digit bytes)
width_spelled [] other le = refl
width_spelled (c ∷ cs) other le = by_test (is_digit c) refl le
  where
    all : AllByRecursion IsDigit (front is_digit cs)
    all = passes_digits (front is_digit cs) (front_passes is_digit cs)

    by_test : (b : Bool) → is_digit c ≡ b → number_of (cond b (c ∷ front is_digit cs) []) ≤ greatest_width
        → SpellsWidth (number_of (cond b (c ∷ front is_digit cs) [])) (cond b (c ∷ front is_digit cs) [])
    by_test true t le = (other, ((grind (arith, common_steps, t), grind (arith, common_steps, t)), all), refl, le)
    by_test false t le = refl
