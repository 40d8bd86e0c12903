-- Names that are kept in order, and what is found among them.
use Rattle.std.proofs.Common.{◌≡◌, ◌≢◌, ◌∙◌, ◌+◌, ◌<◌, ◌≤◌, ℕ, suc, Bool, true, false, cond, not, List, [], ◌∷◌, ◌++◌, length, drop, take, get_or, add-one, refl, sym, ap, ap₂, subst, Option, Some, None, arith, if◌then◌else◌}
use Rattle.std.specs.Prelude.{slice_get, ◌||◌}
use Rattle.std.specs.BTreeMap as tree
use Rattle.std.specs.BTreeMap.{BTreeMap}
use Rattle.std.specs.BTreeSet as sorted
use Rattle.std.specs.BTreeSet.{BTreeSet}
use Rattle.std.specs.Cmp.{both_ways}
use Rattle.std.specs.Cmp.Lexicographic.{slice_cmp}
use Rattle.std.specs.declared.cmp.Ordering.{Ordering}
use Rattle.std.specs.declared.cmp.Ordering.TheVariants.{Less, Equal, Greater}
use Rattle.std.specs.Map.{lookup}
use Rattle.std.specs.Ordering.{is_eq, nat_cmp, ordering_then}
use Rattle.std.specs.Str.{bytes_eq}
use Rattle.std.proofs.Math.ListN.{drop_of_length-le}
use Rattle.std.proofs.Math.Seq.{drop-cons}
use Rattle.std.proofs.lemmas.List.Folds.{list_any-append}
use Rattle.std.proofs.lemmas.Map.Text.{is_eq-slice_cmp}
use Rattle.std.proofs.lemmas.Slice.Eq.{bytes_eq-Decides}
use Rattle.ti_entry.specs.Finding.{IsLeastIndex, Lacks}
use Rattle.ti_listing.specs.Differences.{has}
use Rattle.ti_listing.specs.inner.Names.{HasFirst, IsSetOf, NameKey, compare_name, index_of, is_kept}

-- ---- the order of the keys

abbrev pub compare_keys : NameKey → NameKey → Ordering
compare_keys one other = ordering_then (nat_cmp one.0 other.0) (slice_cmp nat_cmp one.1.now other.1.now)

apart : (lengths bytes : Ordering) → is_eq bytes ≡ false → is_eq (ordering_then lengths bytes) ≡ false
apart Less bytes e = refl
apart Equal bytes e = e
apart Greater bytes e = refl

same_number : (n : ℕ) → nat_cmp n n ≡ Equal
same_number n = grind arith

-- two names have equal keys exactly if they are the same
same_key : (one other : List ℕ) → is_eq (ordering_then (nat_cmp (length one) (length other)) (slice_cmp nat_cmp one other)) ≡ bytes_eq one other
same_key one other = by (bytes_eq one other) refl
  where
    by : (b : Bool) → bytes_eq one other ≡ b → is_eq (ordering_then (nat_cmp (length one) (length other)) (slice_cmp nat_cmp one other)) ≡ bytes_eq one other
    by true e =
        let same : one ≡ other = (bytes_eq-Decides one other).0 e in
        let lengths : nat_cmp (length one) (length other) ≡ Equal = subst (λ x. nat_cmp (length one) (length x) ≡ Equal) same (same_number (length one)) in
        ap (λ o. is_eq (ordering_then o (slice_cmp nat_cmp one other))) lengths ∙ is_eq-slice_cmp one other
    by false e = apart (nat_cmp (length one) (length other)) (slice_cmp nat_cmp one other) (is_eq-slice_cmp one other ∙ e) ∙ sym e

-- a key of a name
at_key : (name : List ℕ) (key : NameKey) (other : List ℕ) → key.0 ≡ length name → key.1.now ≡ name
    → is_eq (ordering_then (nat_cmp key.0 (length other)) (slice_cmp nat_cmp key.1.now other)) ≡ bytes_eq name other
at_key name key other size bytes = ap₂ (λ n b. is_eq (ordering_then (nat_cmp n (length other)) (slice_cmp nat_cmp b other))) size bytes ∙ same_key name other

-- the key by which a name is looked up
abbrev query : List ℕ → NameKey
query name = (length name, record { ref_ptr = (0, 0); now = name })

-- ---- a set of names

pub found_by_key : (kept : BTreeSet NameKey) (name : List ℕ) (key : NameKey) → key.0 ≡ length name → key.1.now ≡ name → sorted.contains compare_keys kept key ≡ is_kept kept name
found_by_key kept name key size bytes = ap₂ (λ n b. sorted.contains_by (λ k. ordering_then (nat_cmp n k.0) (slice_cmp nat_cmp b k.1.now)) kept) size bytes

-- ---- the first of each name

-- the least index of a name, if the first of a list has the index i
abbrev pub IsFirstFrom : ℕ → List (List ℕ) → List ℕ → Option ℕ → Type 0
IsFirstFrom i names name None = Lacks names name
IsFirstFrom i names name (Some at) = (k : ℕ) × (at ≡ i + k) × (slice_get names k ≡ Some name) × Lacks (take k names) name

one_before : (i : ℕ) (n : List ℕ) (ns : List (List ℕ)) (name : List ℕ) (found : Option ℕ) → n ≢ name → IsFirstFrom (i + 1) ns name found → IsFirstFrom i (n ∷ ns) name found
one_before i n ns name None apart lacks = (apart, lacks)
one_before i n ns name (Some at) apart (k, place, is, before) = (suc k, omega arith, is, (apart, before))

-- one more in front
pub first_more : (i : ℕ) (n : List ℕ) (ns : List (List ℕ)) (name : List ℕ) (found : Option ℕ) → IsFirstFrom (i + 1) ns name found → IsFirstFrom i (n ∷ ns) name (cond (bytes_eq n name) (Some i) found)
first_more i n ns name found first = by (bytes_eq n name) refl
  where
    by : (b : Bool) → bytes_eq n name ≡ b → IsFirstFrom i (n ∷ ns) name (cond b (Some i) found)
    by true e = (0, omega arith, ap Some ((bytes_eq-Decides n name).0 e), tt)
    by false e = one_before i n ns name found (λ same. let wrong : true ≡ false = sym ((bytes_eq-Decides n name).1 same) ∙ e in cc) first

pub first_of_all : (names : List (List ℕ)) (name : List ℕ) (found : Option ℕ) → IsFirstFrom 0 names name found → IsLeastIndex names name found
first_of_all names name None lacks = lacks
first_of_all names name (Some at) (k, place, is, before) =
    let same : k ≡ at = omega arith in
    subst (λ i. (slice_get names i ≡ Some name) × Lacks (take i names) name) same (is, before)

pub found_at_key : (firsts : BTreeMap NameKey ℕ) (name : List ℕ) (key : NameKey) → key.0 ≡ length name → key.1.now ≡ name → tree.get compare_keys firsts key ≡ index_of firsts name
found_at_key firsts name key size bytes = ap₂ (λ n b. tree.get_by (λ k. ordering_then (nat_cmp n k.0) (slice_cmp nat_cmp b k.1.now)) firsts) size bytes

-- what a map has after a name got an index
pub index_after : (name : List ℕ) (key : NameKey) (old new : BTreeMap NameKey ℕ) (at : Option ℕ) → key.0 ≡ length name → key.1.now ≡ name
    → tree.Updates compare_keys old new key at → (other : List ℕ) → index_of new other ≡ cond (bytes_eq name other) at (index_of old other)
index_after name key old new at size bytes updates other = updates.0 (query other) ∙ ap (λ b. cond b at (index_of old other)) (at_key name key other size bytes)

pub kept_after : (name : List ℕ) (key : NameKey) (old new : BTreeSet NameKey) → key.0 ≡ length name → key.1.now ≡ name
    → sorted.Updates compare_keys old new key true → (other : List ℕ) → is_kept new other ≡ cond (bytes_eq name other) true (is_kept old other)
kept_after name key old new size bytes updates other = updates.0 (query other) ∙ ap (λ b. cond b true (is_kept old other)) (at_key name key other size bytes)

either : (b x : Bool) → cond b true x ≡ (x || (b || false))
either true true = refl
either true false = refl
either false true = refl
either false false = refl

turned : (one other : List ℕ) → bytes_eq one other ≡ bytes_eq other one
turned one other = both_ways (bytes_eq one other) (bytes_eq other one)
    (λ e. (bytes_eq-Decides other one).1 (sym ((bytes_eq-Decides one other).0 e)))
    (λ e. (bytes_eq-Decides one other).1 (sym ((bytes_eq-Decides other one).0 e)))

-- a set that got the name of a key has it beside those of the list
pub set_more : (names : List (List ℕ)) (name : List ℕ) (key : NameKey) (old new : BTreeSet NameKey) → key.0 ≡ length name → key.1.now ≡ name
    → IsSetOf names old → sorted.Updates compare_keys old new key true → IsSetOf (if has names name then names else names ++ name ∷ []) new
set_more names name key old new size bytes is updates other =
    kept_after name key old new size bytes updates other ∙ ap (cond (bytes_eq name other) true) (is other) ∙ by (has names name) refl
  where
    there : (b : Bool) → bytes_eq name other ≡ b → has names name ≡ true → cond b true (has names other) ≡ has names other
    there true same e = sym (subst (λ x. has names x ≡ true) ((bytes_eq-Decides name other).0 same) e)
    there false same e = refl

    by : (b : Bool) → has names name ≡ b → cond (bytes_eq name other) true (has names other) ≡ has (if b then names else names ++ name ∷ []) other
    by true e = there (bytes_eq name other) refl e
    by false e =
        either (bytes_eq name other) (has names other) ∙ ap (λ b. has names other || (b || false)) (turned name other)
        ∙ sym (list_any-append (bytes_eq other) names (name ∷ []))

-- ---- one name after another

-- an empty map has the first of each name of none
pub first_none : (names : List (List ℕ)) (i : ℕ) (firsts : BTreeMap NameKey ℕ) → length names ≤ i → tree.IsEmpty firsts → (name : List ℕ) → IsFirstFrom i (drop i names) name (index_of firsts name)
first_none names i firsts past empty name =
    let lacks : index_of firsts name ≡ None = ap (λ entries. lookup (tree.is_at (compare_name name)) entries) empty in
    subst (λ ns. IsFirstFrom i ns name (index_of firsts name)) (sym (drop_of_length-le names past)) (subst (IsFirstFrom i [] name) (sym lacks) tt)

-- a map that got the name before
pub first_next : (names : List (List ℕ)) (k i : ℕ) (key : NameKey) (old new : BTreeMap NameKey ℕ) → i ≡ k + 1 → k < length names → key.0 ≡ length (get_or names k []) → key.1.now ≡ get_or names k []
    → tree.Updates compare_keys old new key (Some k) → ((name : List ℕ) → IsFirstFrom i (drop i names) name (index_of old name)) → (name : List ℕ) → IsFirstFrom k (drop k names) name (index_of new name)
first_next names k i key old new next within size bytes updates before name =
    let n = get_or names k [] in
    let From : ℕ → Type 0 = λ j. IsFirstFrom j (drop j names) name (index_of old name) in
    let To : Option ℕ → Type 0 = IsFirstFrom k (n ∷ drop (k + 1) names) name in
    let rest : drop k names ≡ n ∷ drop (k + 1) names = drop-cons names k [] within ∙ ap (λ j. n ∷ drop j names) (sym (add-one k)) in
    subst (λ ns. IsFirstFrom k ns name (index_of new name)) (sym rest)
    (subst To (sym (index_after n key old new (Some k) size bytes updates name)) (first_more k n (drop (k + 1) names) name (index_of old name) (subst From next (before name))))

-- a map that got all of them
pub first_all : (names : List (List ℕ)) (i : ℕ) (firsts : BTreeMap NameKey ℕ) → i ≤ 0 → ((name : List ℕ) → IsFirstFrom i (drop i names) name (index_of firsts name)) → HasFirst names firsts
first_all names i firsts low before name =
    let none : i ≡ 0 = omega arith in
    first_of_all names name (index_of firsts name) (subst (λ j. IsFirstFrom j (drop j names) name (index_of firsts name)) none (before name))

-- a name is added to a list exactly if it was to the set
pub added_if_new : (names : List (List ℕ)) (name : List ℕ) (key : NameKey) (kept : BTreeSet NameKey) (added : Bool) → key.0 ≡ length name → key.1.now ≡ name → IsSetOf names kept
    → added ≡ not (sorted.contains compare_keys kept key) → (if added then names ++ name ∷ [] else names) ≡ (if has names name then names else names ++ name ∷ [])
added_if_new names name key kept added size bytes is said = by (has names name) (said ∙ ap not (found_by_key kept name key size bytes ∙ is name))
  where
    by : (b : Bool) → added ≡ not b → (if added then names ++ name ∷ [] else names) ≡ (if b then names else names ++ name ∷ [])
    by true e = ap (λ a. if a then names ++ name ∷ [] else names) e
    by false e = ap (λ a. if a then names ++ name ∷ [] else names) e
