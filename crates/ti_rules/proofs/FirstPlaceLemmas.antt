-- The first place is the one that the definition computes.
use Rattle.std.proofs.Common.{◌≡◌, ◌∙◌, ◌<◌, ◌≤◌, ℕ, zero, suc, Bool, true, false, List, [], ◌∷◌, Option, None, Some, ap, ap₂, arith, cond, drop, nat_eq, nat_lt, refl, sym}
use Rattle.std.specs.Prelude.{◌&&◌, is_none, option_map}
use Rattle.std.specs.List.{starts_with}
use Rattle.ti_control.specs.Entries.{starts_parent, tabset}
use Rattle.ti_rules.specs.Actions.{is_tabset}
use Rattle.std.proofs.lemmas.Bool.Decides.{nat_tests}
use Rattle.ti_control.specs.Places.{IsFirstPlace}
use Rattle.ti_pad.specs.Delays.{IsFirstLong, delay_at}
use Rattle.ti_rules.specs.Marks.{first_place}

first_is : (test : List ℕ → Bool) (byte : ℕ) (rest : List ℕ) (b : Bool) → test (byte ∷ rest) ≡ b → first_place test (byte ∷ rest) ≡ cond b (Some 0) (option_map (λ at. suc at) (first_place test rest))
first_is test byte rest b is = ap (λ c. cond c (Some 0) (option_map (λ at. suc at) (first_place test rest))) is

pub place_is : (test : List ℕ → Bool) (bytes : List ℕ) (found : Option ℕ) → IsFirstPlace test bytes found → found ≡ first_place test bytes
place_is test [] None is = refl
place_is test [] (Some at) is = absurd (omega (arith, is.0))
place_is test (byte ∷ rest) None is =
    sym (first_is test byte rest false (is 0 (omega arith)) ∙ ap (option_map (λ at. suc at)) (sym (place_is test rest None (λ k low. is (suc k) (omega (arith, low))))))
place_is test (byte ∷ rest) (Some zero) is = sym (first_is test byte rest true is.1)
place_is test (byte ∷ rest) (Some (suc at)) (within, passes, before) =
    let later = place_is test rest (Some at) (omega (arith, within), passes, (λ k low. before (suc k) (omega (arith, low)))) in
    sym (first_is test byte rest false (before 0 (omega arith)) ∙ ap (option_map (λ at. suc at)) (sym later))

unmapped : (found : Option ℕ) → option_map (λ at. suc at) found ≡ None → found ≡ None
unmapped None is = refl
unmapped (Some at) is = absurd (cc)

-- there is none if the definition computes none
none_next : (test : List ℕ → Bool) (byte : ℕ) (rest : List ℕ) (b : Bool) → test (byte ∷ rest) ≡ b → (first_place test rest ≡ None → IsFirstPlace test rest None)
    → first_place test (byte ∷ rest) ≡ None → IsFirstPlace test (byte ∷ rest) None
none_next test byte rest true passes later is k low =
    let e : Some 0 ≡ None = sym (first_is test byte rest true passes) ∙ is in
    absurd (cc)
none_next test byte rest false fails later is zero low = fails
none_next test byte rest false fails later is (suc k) low =
    later (unmapped (first_place test rest) (sym (first_is test byte rest false fails) ∙ is)) k (omega (arith, low))

pub none_is : (test : List ℕ → Bool) (bytes : List ℕ) → first_place test bytes ≡ None → IsFirstPlace test bytes None
none_is test [] is k low = absurd (omega (arith, low))
none_is test (byte ∷ rest) is k low = none_next test byte rest (test (byte ∷ rest)) refl (none_is test rest) is k low

-- ---- marks of more than a second

test_is : (n : ℕ) → 10000 < n → nat_lt 10000 n ≡ true
test_is n high = grind (arith, nat_tests, high)

test_fails : (n : ℕ) → n ≤ 10000 → nat_lt 10000 n ≡ false
test_fails n low = grind (arith, nat_tests, low)

pub long_is : (bytes : List ℕ) (found : Option ℕ) → IsFirstLong bytes found → found ≡ first_place (λ left. nat_lt 10000 (delay_at left)) bytes
long_is bytes None is = place_is (λ left. nat_lt 10000 (delay_at left)) bytes None (λ k low. test_fails (delay_at (drop k bytes)) (is k low))
long_is bytes (Some at) (within, long, before) =
    place_is (λ left. nat_lt 10000 (delay_at left)) bytes (Some at)
    (within, test_is (delay_at (drop at bytes)) long, (λ k low. test_fails (delay_at (drop k bytes)) (before k low)))

-- ---- files

pub tabset_is : (path : List ℕ) (found : Bool) → (found ≡ true → starts_with nat_eq path tabset ≡ true) → (found ≡ true → IsFirstPlace starts_parent path None)
    → (starts_with nat_eq path tabset ≡ true → IsFirstPlace starts_parent path None → found ≡ true) → found ≡ is_tabset path
tabset_is path true below within otherwise =
    sym (ap₂ (λ b place. b && is_none place) (below refl) (sym (place_is starts_parent path None (within refl))))
tabset_is path false below within otherwise = by (starts_with nat_eq path tabset) refl (first_place starts_parent path) refl
  where
    by : (b : Bool) → starts_with nat_eq path tabset ≡ b → (place : Option ℕ) → first_place starts_parent path ≡ place → false ≡ is_tabset path
    by false starts place is = sym (ap (λ b. b && is_none (first_place starts_parent path)) starts)
    by true starts (Some at) is = sym (ap₂ (λ b place. b && is_none place) starts is)
    by true starts None is = otherwise starts (none_is starts_parent path is) ∙ sym (ap₂ (λ b place. b && is_none place) starts is)
