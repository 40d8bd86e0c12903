-- Reading digits: one step at a place of a list.
use Rattle.std.proofs.Common.{◌≡◌, ℕ, suc, ◌+◌, ◌<◌, ◌≤◌, ◌≢◌, ◌⊎◌, pos, List, [], ◌∷◌, ◌++◌, length, drop, get_or, drop-cons, add-one, refl, ◌∙◌, arith, ap, Ok, Err}
use Rattle.std.proofs.lemmas.Grind.{common_steps}
use Rattle.ti_base.specs.Limits.{greatest_constant}
use Rattle.ti_cap.specs.declared.language.Token.TheVariants.{Constant}
use Rattle.ti_cap.specs.declared.language.CapFault.TheVariants.{CutShort, BadConstant}
use Rattle.ti_cap.specs.Spelling.{number_from, with_digit}
use Rattle.ti_cap.specs.inner.Lexer.{digits_read, front, is_digit}

-- a number grows with each digit
pub number_from-ge : (n : ℕ) (ds : List ℕ) → n ≤ number_from n ds
number_from-ge n [] = omega arith
number_from-ge n (c ∷ cs) = let h : with_digit n c ≤ number_from (with_digit n c) cs = number_from-ge (with_digit n c) cs in omega arith

pub number_from-append : (n : ℕ) (ds es : List ℕ) → number_from n (ds ++ es) ≡ number_from (number_from n ds) es
number_from-append n [] es = refl
number_from-append n (c ∷ cs) es = number_from-append (with_digit n c) cs es

pub digit_step : (n i c : ℕ) (cs : List ℕ) → 48 ≤ c → c ≤ 57 → with_digit n c ≤ greatest_constant
    → digits_read n i (c ∷ cs) ≡ digits_read (with_digit n c) (i + 1) cs
unfolding digits_read
digit_step n i c cs low high small = grind (arith, common_steps)

pub digit_large : (n i c : ℕ) (cs : List ℕ) → 48 ≤ c → c ≤ 57 → greatest_constant < with_digit n c
    → digits_read n i (c ∷ cs) ≡ Err BadConstant
unfolding digits_read
digit_large n i c cs low high large = grind (arith, common_steps)

pub brace_step : (n i c : ℕ) (cs : List ℕ) → c ≡ 125 → 0 < i → digits_read n i (c ∷ cs) ≡ Ok (Constant (pos n), i + 3)
unfolding digits_read
brace_step n i c cs e h = grind (arith, common_steps)

pub other_step : (n i c : ℕ) (cs : List ℕ) → (c < 48) ⊎ (57 < c) → (i ≡ 0) ⊎ (c ≢ 125) → digits_read n i (c ∷ cs) ≡ Err BadConstant
unfolding digits_read
other_step n i c cs h k = grind (arith, common_steps)

pub digit_end : (n i : ℕ) → digits_read n i [] ≡ Err CutShort
unfolding digits_read
digit_end n i = refl

-- the front of the bytes from a place on: a digit goes on with the next place, and another byte ends it
pub front_digit : (i : ℕ) (bytes : List ℕ) → i < length bytes → 48 ≤ get_or bytes i 0 → get_or bytes i 0 ≤ 57
    → front is_digit (drop i bytes) ≡ get_or bytes i 0 ∷ front is_digit (drop (i + 1) bytes)
front_digit i bytes h low high = rw add-one (ap (λ x. front is_digit x) (drop-cons bytes i 0 h) ∙ digit_first (get_or bytes i 0) (drop (suc i) bytes) low high)
  where
    digit_first : (c : ℕ) (cs : List ℕ) → 48 ≤ c → c ≤ 57 → front is_digit (c ∷ cs) ≡ c ∷ front is_digit cs
    digit_first c cs low high = grind (arith, common_steps)

pub front_other : (i : ℕ) (bytes : List ℕ) → i < length bytes → (get_or bytes i 0 < 48) ⊎ (57 < get_or bytes i 0) → front is_digit (drop i bytes) ≡ []
front_other i bytes h other = ap (λ x. front is_digit x) (drop-cons bytes i 0 h) ∙ other_first (get_or bytes i 0) (drop (suc i) bytes) other
  where
    other_first : (c : ℕ) (cs : List ℕ) → (c < 48) ⊎ (57 < c) → front is_digit (c ∷ cs) ≡ []
    other_first c cs other = grind (arith, common_steps)
