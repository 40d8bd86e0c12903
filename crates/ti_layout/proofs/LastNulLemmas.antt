-- The place after the last NUL of a table tells which texts have theirs.
use Rattle.std.proofs.Common.{◌≡◌, ℕ, ◌+◌, ◌-◌, ◌<◌, ◌≤◌, ltb, ℤ, pos, negsuc, true, false, length, take, drop, List, get_or, inl, inr, refl, sym, ap, ◌∙◌, arith}
use Rattle.std.proofs.lemmas.List.{drop_more, drop-drop, take-append-drop}
use Rattle.std.proofs.lemmas.List.Folds.{list_any-append}
use Rattle.std.proofs.lemmas.Bool.{cases_lt, le-ltb, lt-ltb, or_right, both_ways, false_from_ne_true}
use Rattle.std.specs.List.{list_any}
use Rattle.ti_words.specs.Texts.{is_nul}
use Rattle.ti_layout.specs.Table.{ends_in}
use Rattle.ti_layout.specs.Checks.{is_ended}
use Rattle.ti_layout.specs.LastNul.{IsAfterLastNul, is_before}

-- a NUL at or after a place is at or after each earlier one
earlier : (table : List ℕ) (place later : ℕ) → place ≤ later → ends_in table later ≡ true → ends_in table place ≡ true
earlier table place later le e =
    let more = later - place in
    let rest = drop place table in
    let at : later ≡ place + more = omega arith in
    ap (list_any is_nul) (sym (take-append-drop more rest)) ∙ list_any-append is_nul (take more rest) (drop more rest)
    ∙ or_right _ _ (ap (list_any is_nul) (drop-drop more place table ∙ ap (λ n. drop n table) (sym at)) ∙ e)

none_after : (table : List ℕ) (after place : ℕ) → after ≤ place → ends_in table after ≡ false → ends_in table place ≡ ltb place after
none_after table after place le none = false_from_ne_true (ends_in table place) (λ e. both_ways (ends_in table after) none (earlier table after place le e)) ∙ sym (le-ltb place after le)

pub after_nul : (table : List ℕ) (after : ℕ) → 0 < after → after ≤ length table → get_or table (after - 1) 0 ≡ 0 → ends_in table after ≡ false → IsAfterLastNul table after
after_nul table after some le nul none = λ place. elim (cases_lt place after) [
  | inl lt ↦
      let last : ends_in table (after - 1) ≡ true = ap (list_any is_nul) (drop_more table (after - 1) 0 (omega arith)) ∙ rw nul refl in
      earlier table place (after - 1) (omega arith) last ∙ sym (lt-ltb place after lt)
  | inr ge ↦ none_after table after place ge none
]

pub no_nul_at_all : (table : List ℕ) → ends_in table 0 ≡ false → IsAfterLastNul table 0
no_nul_at_all table none = λ place. none_after table 0 place (omega arith) none

pub told : (table : List ℕ) (after : ℕ) → IsAfterLastNul table after → (z : ℤ) → is_ended table z ≡ is_before after z
told table after h (pos place) = h place
told table after h (negsuc n) = refl
