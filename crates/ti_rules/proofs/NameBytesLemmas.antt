-- The aliases of names end at one place, and what is no UTF-8 is reported at one.
use Rattle.std.proofs.Common.{◌≡◌, ◌∙◌, ◌↔◌, ◌<◌, ◌≤◌, ◌+◌, ◌&&◌, ℕ, Bool, true, false, List, Option, None, Some, arith, cond, inl, inr, length, nat_lt, refl, sym, true≢false, ap}
use Rattle.std.specs.Prelude.{MatchOption, is_none, option_map}
use Rattle.std.specs.Str.{IsUtf8}
use Rattle.std.specs.Str.Lossy.{utf8_valid_len}
use Rattle.std.proofs.lemmas.Bool.Decides.{nat_tests}
use Rattle.ti_control.specs.Entries.{EndsAliases, starts_control, starts_empty, starts_empty_after}
use Rattle.ti_control.specs.Places.{IsFirstPlace}
use Rattle.ti_rules.specs.Marks.{first_place}
use Rattle.ti_rules.specs.NameBytes.{IsFit, IsUtf8Report, first_empty, on_names}
use Rattle.ti_rules.proofs.FirstPlaceLemmas.{place_is}
use Rattle.ti_rules.specs.declared.finding.Finding.TheVariants.{NamesMalformed}

-- a bar at one end is before no other
not_before : (names : List ℕ) (end other : ℕ) → EndsAliases names end → EndsAliases names other → end < other → ⊥
not_before names end other is too low = by (nat_lt other (length names)) refl
  where
    within : end < length names
    within = omega (arith, low, too.within)

    by : (b : Bool) → nat_lt other (length names) ≡ b → ⊥
    by true e =
        let high : other < length names = grind (arith, nat_tests, e) in
        true≢false (sym (too.bar high) ∙ is.last other low high)
    by false e =
        let at_end : other ≡ length names = omega (arith, too.within, not_below e) in
        true≢false (sym (is.bar within) ∙ too.none at_end end within)
      where
        not_below : nat_lt other (length names) ≡ false → length names ≤ other
        not_below e = grind (arith, nat_tests, e)

pub one_end : (names : List ℕ) (end other : ℕ) → EndsAliases names end → EndsAliases names other → end ≡ other
one_end names end other is too = by (nat_lt end other) refl (nat_lt other end) refl
  where
    by : (b : Bool) → nat_lt end other ≡ b → (a : Bool) → nat_lt other end ≡ a → end ≡ other
    by true e a f = absurd (not_before names end other is too (grind (arith, nat_tests, e)))
    by false e true f = absurd (not_before names other end too is (grind (arith, nat_tests, f)))
    by false e false f = grind (arith, nat_tests, e, f)

pub utf8_report : (names : List ℕ) (found : Option ℕ) → MatchOption found (IsUtf8 names) (λ at. ¬ (IsUtf8 names) × (at ≡ utf8_valid_len names))
    → IsUtf8Report names (on_names names NamesMalformed found)
utf8_report names None is = inl (is, refl)
utf8_report names (Some at) (is, at_is) = inr (is, ap (λ n. on_names names NamesMalformed (Some n)) at_is)

pub fit_is : (name : List ℕ) (malformed control : Option ℕ) → MatchOption malformed (IsUtf8 name) (λ at. ¬ (IsUtf8 name) × (at ≡ utf8_valid_len name)) → control ≡ first_place starts_control name
    → (is_none malformed && is_none control ≡ true) ↔ IsFit name
fit_is name None None utf8 is = ((λ e. (utf8, sym is)), (λ fit. refl))
fit_is name None (Some at) utf8 is = ((λ e. absurd (true≢false (sym e))), (λ fit. absurd (some_is_none at (is ∙ fit.1))))
  where
    some_is_none : (n : ℕ) → Some n ≡ None → ⊥
    some_is_none n e = cc
fit_is name (Some at) control (not_utf8, at_is) is = ((λ e. absurd (true≢false (sym e))), (λ fit. absurd (not_utf8 fit.0)))

-- the first empty alias, if the first one is not
pub empty_is : (aliases : List ℕ) (b : Bool) → b ≡ starts_empty aliases → b ≡ false → (found : Option ℕ) → IsFirstPlace starts_empty_after aliases found
    → option_map (λ at. at + 1) found ≡ first_empty aliases
empty_is aliases b is off found place =
    let later = option_map (λ (at : ℕ). at + 1) (first_place starts_empty_after aliases) in
    ap (option_map (λ at. at + 1)) (place_is starts_empty_after aliases found place) ∙ sym (ap (λ c. cond c (Some 0) later) (sym is ∙ off))
