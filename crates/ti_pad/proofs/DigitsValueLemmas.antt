-- The number that five digits at most stand for.
use Rattle.std.proofs.Common.{◌≡◌, ◌+◌, ◌-◌, ◌*◌, ◌<◌, ◌≤◌, ◌^◌, ◌&&◌, ℕ, zero, suc, Bool, true, false, List, [], ◌∷◌, refl, length, take, get_or, arith, lit≤}
use Rattle.std.proofs.lemmas.Bool.Decides.{nat_tests}
use Rattle.std.specs.List.{list_all}
use Rattle.std.specs.Char.{digit_value, is_ascii_digit}
use Rattle.std.specs.Str.Parse.{AllDigits, digits_value}
use Rattle.std.proofs.lemmas.Int.Digits.{digits_value-lt, digits_value_more}
use Rattle.std.proofs.lemmas.Str.Parse.{digits_value-take-le}

pub both : (a b : Bool) → (a && b) ≡ true → (a ≡ true) × (b ≡ true)
both true b e = (refl, e)
both false b e = cc

pub digit_bounds : (c : ℕ) → is_ascii_digit c ≡ true → (48 ≤ c) × (c < 58)
digit_bounds c e = (grind (arith, nat_tests, e), grind (arith, nat_tests, e))

pub digit_value-decimal : (c : ℕ) → is_ascii_digit c ≡ true → (digit_value c ≡ c - 48) × (digit_value c < 10)
digit_value-decimal c e =
    let (low, high) = digit_bounds c e in
    (grind (arith, nat_tests), grind (arith, nat_tests))

pub all_digits : (ds : List ℕ) → list_all is_ascii_digit ds ≡ true → AllDigits 10 ds
all_digits [] e = tt
all_digits (d ∷ ds) e =
    let (first, rest) = both _ _ e in
    ((digit_value-decimal d first).1, all_digits ds rest)

powers : (n : ℕ) → n ≤ 5 → 10 ^ n ≤ 100000
powers zero h = lit≤ tt
powers (suc zero) h = lit≤ tt
powers (suc (suc zero)) h = lit≤ tt
powers (suc (suc (suc zero))) h = lit≤ tt
powers (suc (suc (suc (suc zero)))) h = lit≤ tt
powers (suc (suc (suc (suc (suc zero))))) h = lit≤ tt
powers (suc (suc (suc (suc (suc (suc n)))))) h = absurd (omega arith)

pub number_small : (ds : List ℕ) (i : ℕ) → list_all is_ascii_digit ds ≡ true → length ds ≤ 5 → digits_value 10 (take i ds) < 100000
number_small ds i all few =
    omega (arith, digits_value-take-le 10 ds i (lit≤ tt), digits_value-lt 10 ds (all_digits ds all), powers (length ds) few)

pub list_all_get : (p : ℕ → Bool) (xs : List ℕ) (i : ℕ) → list_all p xs ≡ true → i < length xs → p (get_or xs i 0) ≡ true
list_all_get p [] i all h = absurd (omega arith)
list_all_get p (x ∷ xs) zero all h = (both _ _ all).0
list_all_get p (x ∷ xs) (suc i) all h = list_all_get p xs i (both _ _ all).1 (omega arith)

pub number_more : (ds : List ℕ) (i value digit : ℕ) → list_all is_ascii_digit ds ≡ true → i < length ds → value ≡ digits_value 10 (take i ds)
    → digit ≡ get_or ds i 0 - 48 → value * 10 + digit ≡ digits_value 10 (take (i + 1) ds)
number_more ds i value digit all h e d =
    let is = (digit_value-decimal (get_or ds i 0) (list_all_get is_ascii_digit ds i all h)).0 in
    omega (arith, digits_value_more 10 ds i h, is)
