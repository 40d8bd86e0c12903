-- The keys of an entry have one order.
use Rattle.std.proofs.Common.{◌≡◌, ◌∙◌, ◌+◌, ◌≤◌, ℕ, suc, Bool, true, false, List, [], ◌∷◌, ap, ap₂, arith, add-one, cond, get_or, refl, subst, sym, Ordering, Equal}
use Rattle.std.specs.Cmp.{IsTotalOrder, on_total, then_total, tied_itself}
use Rattle.std.specs.Cmp.Lexicographic.{nat_list_cmp_total, slice_cmp}
use Rattle.std.specs.List.{AllByRecursion, sum_by}
use Rattle.std.specs.List.Sorted.{IsSorted}
use Rattle.std.specs.Ordering.{is_lt, ordering_then, nat_cmp}
use Rattle.std.proofs.lemmas.List.Sorted.{ranks_by, sum_by-IsPermutation}
use Rattle.std.proofs.lemmas.List.Sums.{sum_by-cons}
use Rattle.ti_rules.specs.Keys.{AreRemarksOnKeys, Key, key_cmp, on_keys}
use Rattle.ti_rules.specs.Remarks.{Remark}
use Rattle.ti_rules.proofs.NeighboursLemmas.{both_ways, by_text}

key_total : IsTotalOrder key_cmp
key_total = then_total (on_total (λ k. k.0) nat_list_cmp_total) (on_total (λ k. k.1) nat_list_cmp_total)

abbrev below : Key → Key → Bool
below x y = is_lt (key_cmp x y)

-- texts that are the same leave the order to the names
by_name : (o p : Ordering) → o ≡ Equal → is_lt (ordering_then o p) ≡ false → is_lt p ≡ false
by_name o p e h = sym (ap (λ q. is_lt (ordering_then q p)) e) ∙ h

same_key : (x y : Key) → below x y ≡ false → below y x ≡ false → x ≡ y
same_key (text, name) (other, its) low high =
    let texts : text ≡ other = both_ways text other (by_text _ _ high) (by_text _ _ low) in
    let equal : slice_cmp nat_cmp text other ≡ Equal = subst (λ t. slice_cmp nat_cmp text t ≡ Equal) texts (tied_itself nat_list_cmp_total text) in
    let lequa : slice_cmp nat_cmp other text ≡ Equal = subst (λ t. slice_cmp nat_cmp t text ≡ Equal) texts (tied_itself nat_list_cmp_total text) in
    ap₂ (λ t n. (t, n)) texts (both_ways name its (by_name _ _ lequa high) (by_name _ _ equal low))

-- 1 of a key that is below another
abbrev is_below : Key → Key → ℕ
is_below x k = cond (below k x) 1 0

-- what is in order after the first, and the first beside the second
rest_sorted : (x : Key) (xs : List Key) → IsSorted key_cmp (x ∷ xs) → IsSorted key_cmp xs
rest_sorted x xs sorted k d low high =
    let P : ℕ → Type 0 = λ n. is_lt (key_cmp (get_or (x ∷ xs) (n + 1) d) (get_or (x ∷ xs) n d)) ≡ false in
    let Q : ℕ → Type 0 = λ n. is_lt (key_cmp (get_or (x ∷ xs) n d) (get_or xs k d)) ≡ false in
    let R : ℕ → Type 0 = λ n. is_lt (key_cmp (get_or xs n d) (get_or xs k d)) ≡ false in
    subst R (sym (add-one k)) (subst Q (add-one (suc k)) (sorted (suc k) d (omega arith) (omega (arith, high))))

first_two : (x y : Key) (xs : List Key) → IsSorted key_cmp (x ∷ y ∷ xs) → below y x ≡ false
first_two x y xs sorted =
    let P : ℕ → Type 0 = λ n. is_lt (key_cmp (get_or (x ∷ y ∷ xs) n x) x) ≡ false in
    subst P (add-one 0) (sorted 0 x (omega arith) (omega arith))

-- of a row in order none is below the first
none_less : (x : Key) (xs : List Key) → IsSorted key_cmp (x ∷ xs) → AllByRecursion (λ k. below k x ≡ false) xs
none_less x [] sorted = tt
none_less x (y ∷ xs) sorted = (first_two x y xs sorted, further x y xs (first_two x y xs sorted) (none_less y xs (rest_sorted x (y ∷ xs) sorted)))
  where
    further : (x y : Key) (xs : List Key) → below y x ≡ false → AllByRecursion (λ k. below k y ≡ false) xs → AllByRecursion (λ k. below k x ≡ false) xs
    further x y [] first all = tt
    further x y (k ∷ xs) first all = ((ranks_by key_total (λ (z : Key). z)).chain k y x all.0 first, further x y xs first all.1)

sum_zero : (x : Key) (xs : List Key) → AllByRecursion (λ k. below k x ≡ false) xs → sum_by (is_below x) xs ≡ 0
sum_zero x [] none = refl
sum_zero x (k ∷ xs) none = omega (arith, sum_by-cons (is_below x) k xs, ap {B = ℕ} (λ b. cond b 1 0) none.0, sum_zero x xs none.1)

none_below : (x : Key) (xs : List Key) → IsSorted key_cmp (x ∷ xs) → sum_by (is_below x) (x ∷ xs) ≡ 0
none_below x xs sorted = sum_zero x (x ∷ xs) (ap is_lt (tied_itself key_total x), none_less x xs sorted)

one_below : (x y : Key) (ys : List Key) → below y x ≡ true → 1 ≤ sum_by (is_below x) (y ∷ ys)
one_below x y ys is = omega (arith, sum_by-cons (is_below x) y ys, ap {B = ℕ} (λ b. cond b 1 0) is)

-- the first of another row with the same keys is not below it
first_not_below : (x y : Key) (xs ys : List Key) → IsSorted key_cmp (x ∷ xs) → ((f : Key → ℕ) → sum_by f (x ∷ xs) ≡ sum_by f (y ∷ ys)) → below y x ≡ false
first_not_below x y xs ys sorted same = by (below y x) refl
  where
    by : (b : Bool) → below y x ≡ b → below y x ≡ false
    by false is = is
    by true is = absurd (omega (arith, one_below x y ys is, none_below x xs sorted, same (is_below x)))

one_row : (xs ys : List Key) → IsSorted key_cmp xs → IsSorted key_cmp ys → ((f : Key → ℕ) → sum_by f xs ≡ sum_by f ys) → xs ≡ ys
one_row [] [] s t same = refl
one_row [] (y ∷ ys) s t same = absurd (omega (arith, same (λ k. 1), sum_by-cons (λ k. 1) y ys))
one_row (x ∷ xs) [] s t same = absurd (omega (arith, same (λ k. 1), sum_by-cons (λ k. 1) x xs))
one_row (x ∷ xs) (y ∷ ys) s t same =
    let first : x ≡ y = same_key x y (first_not_below y x ys xs t (λ f. sym (same f))) (first_not_below x y xs ys s same) in
    ap₂ (λ k ks. k ∷ ks) first (one_row xs ys (rest_sorted x xs s) (rest_sorted y ys t) (λ f. omega (arith, same f, sum_by-cons f x xs, sum_by-cons f y ys, ap f first)))

pub one_keys : (keys : List Key) (one other : List Remark) → AreRemarksOnKeys keys one → AreRemarksOnKeys keys other → one ≡ other
one_keys keys one other p q =
    let same : (f : Key → ℕ) → sum_by f p.row ≡ sum_by f q.row = λ f. sum_by-IsPermutation f keys p.row p.same ∙ sym (sum_by-IsPermutation f keys q.row q.same) in
    p.remarks_are ∙ ap (λ row. on_keys row row) (one_row p.row q.row p.ascends q.ascends same) ∙ sym q.remarks_are
