-- The earlier texts in a map, each with its place.
use Rattle.std.proofs.Common.{◌≡◌, ◌∙◌, ◌<◌, ◌≤◌, ℕ, ◌+◌, ◌⊎◌, inl, inr, List, ap, arith, Bool, true, false, true≢false, cond, length, refl, subst, sym, Option, Some, None, Ordering, Less, Equal, Greater, nat_cmp}
use Rattle.std.specs.Cmp.{ranks}
use Rattle.std.specs.Ordering.{MatchOrdering, is_lt, ordering_reverse}
use Rattle.std.specs.Bool.{OnTrue}
use Rattle.std.specs.Map.{update}
use Rattle.std.specs.Str.{bytes_eq}
use Rattle.std.specs.Cmp.Lexicographic.{bytes_decides, nat_list_cmp_total, slice_cmp}
use Rattle.ti_values.specs.Findings.{IsSameAt, sent_at}
use Rattle.ti_values.specs.inner.Rising.{IsBefore}

-- a look-up finds exactly the first so many, each at its place
pub record FindsEarlier (all : List (List ℕ)) (n : ℕ) (find : List ℕ → Option ℕ) : Type 0 where
  pub has : (k : ℕ) → k < n → find (sent_at all k) ≡ Some k
  pub only : (text : List ℕ) (k : ℕ) → find text ≡ Some k → (k < n) × (sent_at all k ≡ text)

some_is : (j k : ℕ) → Some j ≡ Some k → j ≡ k
some_is j k e = cc

-- so no two of them are the same
pub no_earlier : (all : List (List ℕ)) (n : ℕ) (find : List ℕ → Option ℕ) → FindsEarlier all n find
    → (one other : ℕ) → other < n → ¬ IsSameAt all one other
no_earlier all n find finds one other within same =
    let e : one ≡ other = some_is one other (sym (finds.has one (omega arith)) ∙ ap find same.2 ∙ finds.has other within) in
    absurd (omega (arith, e, same.0))

same_bytes : (x y : List ℕ) → bytes_eq x y ≡ true → x ≡ y
same_bytes x y e = (bytes_decides x y).0 e

-- one more, which was not there
pub finds_more : (all : List (List ℕ)) (n : ℕ) (find new : List ℕ → Option ℕ) → FindsEarlier all n find → find (sent_at all n) ≡ None
    → ((text : List ℕ) → new text ≡ update bytes_eq find (sent_at all n) (Some n) text) → FindsEarlier all (n + 1) new
finds_more all n find new finds absent is = record { has = has; only = only }
  where
    here : List ℕ
    here = sent_at all n

    has : (k : ℕ) → k < n + 1 → new (sent_at all k) ≡ Some k
    has k low = by (bytes_eq here (sent_at all k)) refl
      where
        by : (b : Bool) → bytes_eq here (sent_at all k) ≡ b → new (sent_at all k) ≡ Some k
        by true e = is (sent_at all k) ∙ ap (λ b. cond b (Some n) (find (sent_at all k))) e ∙ ap (λ j. Some j) (elim below as (λ c. n ≡ k) [ inl lower ↦ absurd (clash lower) | inr it ↦ sym it ])
          where
            below : (k < n) ⊎ (k ≡ n)
            below = grind arith

            clash : k < n → ⊥
            clash lower = let wrong : None ≡ Some k = sym absent ∙ ap find (same_bytes here (sent_at all k) e) ∙ finds.has k lower in cc
        by false e = is (sent_at all k) ∙ ap (λ b. cond b (Some n) (find (sent_at all k))) e ∙ finds.has k (elim below as (λ c. k < n) [ inl lower ↦ lower | inr it ↦ absurd (clash it) ])
          where
            below : (k < n) ⊎ (k ≡ n)
            below = grind arith

            clash : k ≡ n → ⊥
            clash it = let wrong : true ≡ false = sym ((bytes_decides here (sent_at all k)).1 (ap (sent_at all) (sym it))) ∙ e in cc

    only : (text : List ℕ) (k : ℕ) → new text ≡ Some k → (k < n + 1) × (sent_at all k ≡ text)
    only text k found = by (bytes_eq here text) refl
      where
        by : (b : Bool) → bytes_eq here text ≡ b → (k < n + 1) × (sent_at all k ≡ text)
        by true e =
            let it : n ≡ k = some_is n k (sym (is text ∙ ap (λ b. cond b (Some n) (find text)) e) ∙ found) in
            (omega (arith, it), ap (sent_at all) (sym it) ∙ same_bytes here text e)
        by false e =
            let old = finds.only text k (sym (is text ∙ ap (λ b. cond b (Some n) (find text)) e) ∙ found) in
            (omega (arith, old.0), old.1)

-- ---- outputs that rise

less : (r : Ordering) → is_lt r ≡ true → r ≡ Less
less Less e = refl
less Equal e = absurd (true≢false (sym e))
less Greater e = absurd (true≢false (sym e))

pub before_by_bytes : (one other : List ℕ) (b : Bool) → Equal ≡ nat_cmp (length one) (length other) → b ≡ is_lt (slice_cmp nat_cmp one other)
    → OnTrue b (IsBefore one other)
before_by_bytes one other true same is = inr (tied (nat_cmp (length one) (length other)) same (ranks (length one) (length other)), sym is)
  where
    tied : (r : Ordering) → Equal ≡ r → MatchOrdering r (length one < length other) (length one ≡ length other) (length other < length one) → length one ≡ length other
    tied r e it = subst (λ o. MatchOrdering o (length one < length other) (length one ≡ length other) (length other < length one)) (sym e) it
before_by_bytes one other false same is = tt

pub before : (one other : List ℕ) (b : Bool) → b ≡ true → OnTrue b (IsBefore one other) → IsBefore one other
before one other b e it = subst (λ r. OnTrue r (IsBefore one other)) e it

before_trans : (one two other : List ℕ) → IsBefore one two → IsBefore two other → IsBefore one other
before_trans one two other (inl a) (inl b) = inl (omega (arith, a, b))
before_trans one two other (inl a) (inr b) = inl (omega (arith, a, b.0))
before_trans one two other (inr a) (inl b) = inl (omega (arith, a.0, b))
before_trans one two other (inr a) (inr b) =
    inr (a.0 ∙ b.0, ap is_lt (nat_list_cmp_total.trans one two other (less (slice_cmp nat_cmp one two) a.1) (less (slice_cmp nat_cmp two other) b.1)))

not_before_itself : (text : List ℕ) → ¬ IsBefore text text
not_before_itself text (inl a) = absurd (omega (arith, a))
not_before_itself text (inr a) =
    let is : slice_cmp nat_cmp text text ≡ Less = less (slice_cmp nat_cmp text text) a.1 in
    let both : Less ≡ Greater = sym is ∙ nat_list_cmp_total.antisymm text text ∙ ap ordering_reverse is in cc

-- each of the first so many is before those after it
abbrev pub Rises : List (List ℕ) → ℕ → Type 0
Rises all n = (one other : ℕ) → one < other → other < n → IsBefore (sent_at all one) (sent_at all other)

pub rises_more : (all : List (List ℕ)) (n next : ℕ) → next ≡ n + 1 → Rises all next → IsBefore (sent_at all n) (sent_at all next) → Rises all (next + 1)
rises_more all n next is rises step one other low within = by (grind arith)
  where
    last : (one < n) ⊎ (one ≡ n) → IsBefore (sent_at all one) (sent_at all next)
    last (inl lower) = before_trans (sent_at all one) (sent_at all n) (sent_at all next) (rises one n lower (omega (arith, is))) step
    last (inr same) = subst (λ k. IsBefore (sent_at all k) (sent_at all next)) (sym same) step

    by : (other < next) ⊎ (other ≡ next) → IsBefore (sent_at all one) (sent_at all other)
    by (inl it) = rises one other low it
    by (inr it) = subst (λ k. IsBefore (sent_at all one) (sent_at all k)) (sym it) (last (grind (arith, is, it, low)))

pub none_same : (all : List (List ℕ)) (n : ℕ) → length all ≤ n → Rises all n → (one other : ℕ) → ¬ IsSameAt all one other
none_same all n whole rises one other same =
    not_before_itself (sent_at all other) (subst (λ text. IsBefore text (sent_at all other)) same.2 (rises one other same.0 (omega (arith, same.1, whole))))
