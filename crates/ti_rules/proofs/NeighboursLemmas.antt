-- In a sorted row the next key is the first that sends the same, or the first that sends more.
use Rattle.std.proofs.Common.{◌≡◌, ◌≢◌, ℕ, suc, ◌+◌, ◌<◌, ◌⊎◌, inl, inr, List, [], ◌∷◌, ◌++◌, length, take, refl, sym, ◌∙◌, ap, ap₂, subst, arith, Bool, true, false, ◌&&◌, cond, nat_eq, nat_lt, nat_cmp, Ordering, Less, Equal, Greater, Some, None, find, get_or}
use Rattle.std.proofs.lemmas.List.{append_assoc}
use Rattle.std.proofs.lemmas.List.Sorted.{ranks_by}
use Rattle.std.specs.List.{AllByRecursion}
use Rattle.std.specs.List.Sorted.{IsSorted}
use Rattle.std.specs.Ordering.{is_lt, ordering_then}
use Rattle.std.specs.Str.{bytes_eq}
use Rattle.std.specs.Cmp.Lexicographic.{slice_cmp, nat_list_cmp_total, bytes_decides, pointwise}
use Rattle.ti_rules.specs.declared.finding.Finding.TheVariants as findings
use Rattle.ti_rules.specs.Keys.{Key, alike_key, on_alike, is_first_part, key_cmp, on_key, on_keys, longer_key, on_longer, on_two}
use Rattle.ti_rules.specs.Remarks.{Remark}
use Rattle.ti_rules.specs.inner.Neighbours.{on_neighbours, on_row}

abbrev Text : Type 0
Text = List ℕ

-- the second is not below the first
abbrev AreInOrder : Text → Text → Type 0
AreInOrder x y = is_lt (slice_cmp nat_cmp y x) ≡ false

-- ---- the first part of a text

-- the same, byte by byte
abbrev part : Text → Text → Bool
part [] [] = false
part [] (b ∷ y) = true
part (a ∷ x) [] = false
part (a ∷ x) (b ∷ y) = nat_eq a b && part x y

and_swap : (p q r : Bool) → p && (q && r) ≡ q && (p && r)
and_swap true true r = refl
and_swap true false r = refl
and_swap false true r = refl
and_swap false false r = refl

is_part : (x y : Text) → is_first_part x y ≡ part x y
is_part [] [] = refl
is_part [] (b ∷ y) = grind arith
is_part (a ∷ x) [] = grind arith
is_part (a ∷ x) (b ∷ y) =
    let less : nat_lt (suc (length x)) (suc (length y)) ≡ nat_lt (length x) (length y) = grind arith in
    ap (λ t. t && (nat_eq a b && pointwise nat_eq x (take (length x) y))) less
    ∙ and_swap (nat_lt (length x) (length y)) (nat_eq a b) (pointwise nat_eq x (take (length x) y))
    ∙ ap (λ t. nat_eq a b && t) (is_part x y)

by_order : (a b : ℕ) → ((a < b) × (nat_cmp a b ≡ Less)) ⊎ (((a ≡ b) × (nat_cmp a b ≡ Equal)) ⊎ ((b < a) × (nat_cmp a b ≡ Greater)))
by_order a b = grind arith

eq_is : (a b : ℕ) → nat_eq a b ≡ true → a ≡ b
eq_is a b e = grind arith

is_eq : (a b : ℕ) → a ≡ b → nat_eq a b ≡ true
is_eq a b e = grind arith

is_other : (a b : ℕ) → b < a → nat_eq a b ≡ false
is_other a b e = grind arith

and_left : (p q : Bool) → p && q ≡ true → p ≡ true
and_left true q e = refl
and_left false q e = e

and_right : (p q : Bool) → p && q ≡ true → q ≡ true
and_right true q e = e
and_right false q e = absurd (cc)

and_false : (p q : Bool) → q ≡ false → p && q ≡ false
and_false true q e = e
and_false false q e = refl

-- of texts in order the first byte of the second is above that of the first, or the same, and then what follows is in order
heads : (a b : ℕ) (o : Ordering) → is_lt (ordering_then (nat_cmp b a) o) ≡ false → (a < b) ⊎ ((a ≡ b) × (is_lt o ≡ false))
heads a b o h = elim (by_order b a) [
  | inl less ↦ absurd (differ (sym (ap (λ c. is_lt (ordering_then c o)) less.1) ∙ h))
  | inr more ↦ elim more [
    | inl same ↦ inr (sym same.0, sym (ap (λ c. is_lt (ordering_then c o)) same.1) ∙ h)
    | inr above ↦ inl above.0
  ]
]
  where
    differ : true ≢ false
    differ h = cc

-- what comes later is no part of what comes before it
not_after : (x y : Text) → AreInOrder y x → part x y ≡ false
not_after [] [] h = refl
not_after [] (b ∷ y) h = absurd (cc)
not_after (a ∷ x) [] h = refl
not_after (a ∷ x) (b ∷ y) h = elim (heads b a (slice_cmp nat_cmp x y) h) [
  | inl less ↦ ap (λ t. t && part x y) (is_other a b less)
  | inr same ↦ and_false (nat_eq a b) (part x y) (not_after x y same.1)
]

-- what is between a text and one that it starts is the text, or also starts with it
between : (x y z : Text) → AreInOrder x y → AreInOrder y z → part x z ≡ true → (x ≡ y) ⊎ (part x y ≡ true)
between [] [] z low high p = inl refl
between [] (b ∷ y) z low high p = inr refl
between (a ∷ x) y [] low high p = absurd (cc)
between (a ∷ x) [] (c ∷ z) low high p = absurd (cc)
between (a ∷ x) (b ∷ y) (c ∷ z) low high p =
    let first : a ≡ c = eq_is a c (and_left (nat_eq a c) (part x z) p) in
    elim (heads a b (slice_cmp nat_cmp y x) low) [
      | inl less ↦ elim (heads b c (slice_cmp nat_cmp z y) high) [
        | inl more ↦ absurd (omega (arith, first, less, more))
        | inr same ↦ absurd (omega (arith, first, less, same.0))
      ]
      | inr same ↦ elim (heads b c (slice_cmp nat_cmp z y) high) [
        | inl more ↦ absurd (omega (arith, first, same.0, more))
        | inr alike ↦ elim (between x y z same.1 alike.1 (and_right (nat_eq a c) (part x z) p)) [
          | inl e ↦ inl (ap₂ (λ d w. d ∷ w) same.0 e)
          | inr q ↦ inr (ap₂ (λ s t. s && t) (is_eq a b same.0) q)
        ]
      ]
    ]

pub both_ways : (x y : Text) → AreInOrder x y → AreInOrder y x → x ≡ y
both_ways [] [] low high = refl
both_ways [] (b ∷ y) low high = absurd (cc)
both_ways (a ∷ x) [] low high = absurd (cc)
both_ways (a ∷ x) (b ∷ y) low high = elim (heads a b (slice_cmp nat_cmp y x) low) [
  | inl less ↦ elim (heads b a (slice_cmp nat_cmp x y) high) [ inl more ↦ absurd (omega (arith, less, more)) | inr same ↦ absurd (omega (arith, less, same.0)) ]
  | inr same ↦ elim (heads b a (slice_cmp nat_cmp x y) high) [
    | inl more ↦ absurd (omega (arith, same.0, more))
    | inr alike ↦ ap₂ (λ d w. d ∷ w) same.0 (both_ways x y same.1 alike.1)
  ]
]

not_itself : (x : Text) → part x x ≡ false
not_itself [] = refl
not_itself (a ∷ x) = and_false (nat_eq a a) (part x x) (not_itself x)

-- ---- keys in order

-- no later key is below the one
abbrev Later : Key → List Key → Type 0
Later one keys = AllByRecursion (λ k. AreInOrder one.0 k.0) keys

abbrev Ascends : List Key → Type 0
Ascends [] = Unit {0}
Ascends (one ∷ later) = Later one later × Ascends later

pub by_text : (o p : Ordering) → is_lt (ordering_then o p) ≡ false → is_lt o ≡ false
by_text Less p h = h
by_text Equal p h = refl
by_text Greater p h = refl

later_all : (one other : Key) (rest : List Key) → AreInOrder one.0 other.0 → Later other rest → Later one rest
later_all one other [] first all = tt
later_all one other (k ∷ rest) first all = ((ranks_by nat_list_cmp_total (λ (t : Text). t)).chain k.0 other.0 one.0 all.0 first, later_all one other rest first all.1)

ascends : (row : List Key) → IsSorted key_cmp row → Ascends row
ascends [] s = tt
ascends (one ∷ []) s = (tt, tt)
ascends (one ∷ other ∷ rest) s =
    let first : AreInOrder one.0 other.0 = by_text (slice_cmp nat_cmp other.0 one.0) (slice_cmp nat_cmp other.1 one.1) (s 0 one (omega arith) (omega arith)) in
    let more = ascends (other ∷ rest) (λ k d low high.
    let next : suc k + 1 ≡ suc (k + 1) = omega arith in
    let P : ℕ → Type 0 = λ n. is_lt (key_cmp (get_or (one ∷ other ∷ rest) n d) (get_or (one ∷ other ∷ rest) (suc k) d)) ≡ false in
    subst P next (s (suc k) d (omega arith) (omega arith))) in
    ((first, later_all one other rest first more.0), more)

-- ---- searches

find_past : (test : Key → Bool) (keys more : List Key) → AllByRecursion (λ k. test k ≡ false) keys → find test (keys ++ more) ≡ find test more
find_past test [] more none = refl
find_past test (k ∷ keys) more none = ap (λ t. cond t (Some k) (find test (keys ++ more))) none.0 ∙ find_past test keys more none.1

find_none : (test : Key → Bool) (keys : List Key) → AllByRecursion (λ k. test k ≡ false) keys → find test keys ≡ None
find_none test [] none = refl
find_none test (k ∷ keys) none = ap (λ t. cond t (Some k) (find test keys)) none.0 ∙ find_none test keys none.1

each : (P Q : Key → Type 0) → ((k : Key) → P k → Q k) → (keys : List Key) → AllByRecursion P keys → AllByRecursion Q keys
each P Q f [] all = tt
each P Q f (k ∷ keys) all = (f k all.0, each P Q f keys all.1)

and_last : (P : Key → Type 0) (keys : List Key) (k : Key) → AllByRecursion P keys → P k → AllByRecursion P (keys ++ k ∷ [])
and_last P [] k all last = (last, tt)
and_last P (one ∷ keys) k all last = (all.0, and_last P keys k all.1 last)

-- ---- a key among all

-- nothing up to a key sends more
record Stands (row before : List Key) (one : Key) (later : List Key) : Type 0 where
  all : row ≡ before ++ one ∷ later
  up_to : AllByRecursion (λ b. Later b (one ∷ later)) before
  on : Ascends (one ∷ later)

longer_is : (row before : List Key) (one : Key) (later : List Key) → Stands row before one later → longer_key one.0 row ≡ longer_key one.0 later
longer_is row before one later s =
    let test : Key → Bool = λ other. is_first_part one.0 other.0 in
    let none = each (λ b. Later b (one ∷ later)) (λ b. test b ≡ false) (λ b l. is_part one.0 b.0 ∙ not_after one.0 b.0 l.0) before s.up_to in
    ap (find test) s.all ∙ find_past test before (one ∷ later) none ∙ ap (λ t. cond t (Some one) (find test later)) (is_part one.0 one.0 ∙ not_itself one.0)

-- what does not send the same as the next one
differs : (x y : Text) → x ≢ y → bytes_eq x y ≡ false
differs x y other = by (bytes_eq x y) refl
  where
    by : (b : Bool) → bytes_eq x y ≡ b → b ≡ false
    by true e = absurd (other ((bytes_decides x y).0 e))
    by false e = refl

none_alike : (one other : Key) (rest : List Key) → AreInOrder one.0 other.0 → Later other rest → one.0 ≢ other.0 → alike_key one.0 (other ∷ rest) ≡ None
none_alike one other rest first later not_same =
    find_none (λ k. bytes_eq one.0 k.0) (other ∷ rest) (differs one.0 other.0 not_same, each (λ k. AreInOrder other.0 k.0) (λ k. bytes_eq one.0 k.0 ≡ false) further rest later)
  where
    further : (k : Key) → AreInOrder other.0 k.0 → bytes_eq one.0 k.0 ≡ false
    further k order = differs one.0 k.0 (λ e. not_same (both_ways one.0 other.0 first (let P : Text → Type 0 = λ t. AreInOrder other.0 t in subst P (sym e) order)))

none_longer : (one other : Key) (rest : List Key) → AreInOrder one.0 other.0 → Later other rest → one.0 ≢ other.0 → is_first_part one.0 other.0 ≡ false → longer_key one.0 (other ∷ rest) ≡ None
none_longer one other rest first later not_same no_part =
    find_none (λ k. is_first_part one.0 k.0) (other ∷ rest) (no_part, each (λ k. AreInOrder other.0 k.0) (λ k. is_first_part one.0 k.0 ≡ false) further rest later)
  where
    further : (k : Key) → AreInOrder other.0 k.0 → is_first_part one.0 k.0 ≡ false
    further k order = by (part one.0 k.0) refl
      where
        by : (b : Bool) → part one.0 k.0 ≡ b → is_first_part one.0 k.0 ≡ false
        by true e = elim (between one.0 other.0 k.0 first order e) [
          | inl same ↦ absurd (not_same same)
          | inr longer ↦ let wrong : true ≡ false = sym longer ∙ sym (is_part one.0 other.0) ∙ no_part in absurd cc
        ]
        by false e = is_part one.0 k.0 ∙ e

-- ---- the remarks

next_is : (row before : List Key) (one other : Key) (rest : List Key) → Stands row before one (other ∷ rest)
    → on_neighbours one other ≡ on_key row one (alike_key one.0 (other ∷ rest))
next_is row before one other rest s = by (is_first_part one.0 other.0) refl (bytes_eq one.0 other.0) refl
  where
    first : AreInOrder one.0 other.0
    first = s.on.0.0

    later : Later other rest
    later = s.on.1.0

    two : List Remark
    two = on_two one other findings.KeyPrefix

    alike : List Remark
    alike = on_alike one other

    rest_of : Bool → List Remark
    rest_of q = cond q alike []

    to_longer : one.0 ≢ other.0 → on_key row one (alike_key one.0 (other ∷ rest)) ≡ on_key row one None
    to_longer not_same = ap (on_key row one) (none_alike one other rest first later not_same)

    by : (p : Bool) → is_first_part one.0 other.0 ≡ p → (q : Bool) → bytes_eq one.0 other.0 ≡ q
        → on_neighbours one other ≡ on_key row one (alike_key one.0 (other ∷ rest))
    by true e q f =
        ap (λ t. cond t two (rest_of (bytes_eq one.0 other.0))) e
        ∙ ap (on_longer one) (sym (longer_is row before one (other ∷ rest) s ∙ ap (λ t. cond t (Some other) (longer_key one.0 rest)) e))
        ∙ sym (to_longer not_same)
      where
        not_same : one.0 ≢ other.0
        not_same same =
            let P : Text → Type 0 = λ t. part one.0 t ≡ true in
            let wrong : true ≡ false = sym (subst P (sym same) (sym (is_part one.0 other.0) ∙ e)) ∙ not_itself one.0 in
            absurd cc
    by false e true f =
        ap (λ t. cond t two (rest_of (bytes_eq one.0 other.0))) e ∙ ap rest_of f
        ∙ sym (ap (λ t. on_key row one (cond t (Some other) (alike_key one.0 rest))) f)
    by false e false f =
        ap (λ t. cond t two (rest_of (bytes_eq one.0 other.0))) e ∙ ap rest_of f
        ∙ ap (on_longer one) (sym (longer_is row before one (other ∷ rest) s ∙ none_longer one other rest first later not_same e))
        ∙ sym (to_longer not_same)
      where
        not_same : one.0 ≢ other.0
        not_same same = let wrong : true ≡ false = sym ((bytes_decides one.0 other.0).1 same) ∙ f in absurd cc

rows_are : (row before left : List Key) → row ≡ before ++ left → AllByRecursion (λ b. Later b left) before → Ascends left
    → on_row left ≡ on_keys row left
rows_are row before [] all up_to on = refl
rows_are row before (one ∷ []) all up_to on =
    sym (ap (λ found. on_longer one found ++ []) (longer_is row before one [] (record { all = all; up_to = up_to; on = on })))
rows_are row before (one ∷ other ∷ rest) all up_to on =
    ap₂ (λ remarks more. remarks ++ more) (next_is row before one other rest (record { all = all; up_to = up_to; on = on }))
    (rows_are row (before ++ one ∷ []) (other ∷ rest) (all ∙ sym (append_assoc before (one ∷ []) (other ∷ rest))) up_to_next on.1)
  where
    up_to_next : AllByRecursion (λ b. Later b (other ∷ rest)) (before ++ one ∷ [])
    up_to_next = and_last (λ b. Later b (other ∷ rest)) before one (each (λ b. Later b (one ∷ other ∷ rest)) (λ b. Later b (other ∷ rest)) (λ b l. l.1) before up_to) on.0

-- told by the neighbours of a sorted row is what is told by all its keys
pub neighbours_are : (row : List Key) → IsSorted key_cmp row → on_row row ≡ on_keys row row
neighbours_are row s = rows_are row [] row refl tt (ascends row s)
