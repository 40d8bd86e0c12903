-- Keys in their order, one after another.
use Rattle.std.proofs.Common.{◌≡◌, ◌∙◌, ◌+◌, ◌-◌, ◌<◌, ◌≤◌, ℕ, suc, List, [], ◌∷◌, ◌++◌, Bor, ap, ap₂, append_assoc, arith, drop, drop-cons, get_or, length, refl, sym}
use Rattle.std.proofs.lemmas.List.{append-nil, get_or-map, length-drop, length-map}
use Rattle.std.specs.List.Sorted.{IsSorted}
use Rattle.std.specs.Ordering.{is_lt}
use Rattle.ti_rules.specs.Keys.{Key, key_cmp}
use Rattle.ti_rules.specs.Remarks.{Remark}
use Rattle.ti_rules.specs.inner.Lent.{key_lent, keys_lent}
use Rattle.ti_rules.specs.inner.Neighbours.{on_neighbours, on_row}

row_first : (keys : List Key) (i : ℕ) (d : Key) → 1 ≤ i → i < length keys
    → on_row (drop (i - 1) keys) ≡ on_neighbours (get_or keys (i - 1) d) (get_or keys i d) ++ on_row (drop i keys)
row_first keys i d low high =
    let before : suc (i - 1) ≡ i = omega arith in
    let one = get_or keys (i - 1) d in
    let other = get_or keys i d in
    let first : drop (i - 1) keys ≡ one ∷ drop i keys = drop-cons keys (i - 1) d (omega arith) ∙ ap (λ k. one ∷ drop k keys) before in
    let second : drop i keys ≡ other ∷ drop (suc i) keys = drop-cons keys i d high in
    ap (on_row) (first ∙ ap (λ l. one ∷ l) second) ∙ ap (λ l. on_neighbours one other ++ on_row l) (sym second)

-- one key more
pub row_next : (keys : List Key) (i : ℕ) (d : Key) (out new whole : List Remark) → 1 ≤ i → i < length keys
    → new ≡ out ++ on_neighbours (get_or keys (i - 1) d) (get_or keys i d) → out ++ on_row (drop (i - 1) keys) ≡ whole
    → new ++ on_row (drop (i + 1 - 1) keys) ≡ whole
row_next keys i d out new whole low high is so =
    let remarks = on_neighbours (get_or keys (i - 1) d) (get_or keys i d) in
    let here : i + 1 - 1 ≡ i = omega arith in
    ap (λ k. new ++ on_row (drop k keys)) here
    ∙ ap (λ l. l ++ on_row (drop i keys)) is
    ∙ append_assoc out remarks (on_row (drop i keys))
    ∙ ap (λ l. out ++ l) (sym (row_first keys i d low high)) ∙ so

lone : (keys : List Key) → length keys ≤ 1 → on_row keys ≡ []
lone [] few = refl
lone (one ∷ []) few = refl
lone (one ∷ other ∷ rest) few = absurd (omega arith)

-- none is left
pub row_end : (keys : List Key) (i : ℕ) (out whole : List Remark) → length keys ≤ i → out ++ on_row (drop (i - 1) keys) ≡ whole → out ≡ whole
row_end keys i out whole end so =
    let few : length (drop (i - 1) keys) ≤ 1 = omega (arith, length-drop (i - 1) keys) in
    sym (append-nil out) ∙ ap (λ l. out ++ l) (sym (lone (drop (i - 1) keys) few)) ∙ so

abbrev nothing : Bor (List ℕ) × Bor (List ℕ)
nothing = (record { ref_ptr = (0, 0); now = [] }, record { ref_ptr = (0, 0); now = [] })

-- what the code sorts is sorted
pub ascends_lent : (items : List (Bor (List ℕ) × Bor (List ℕ))) → IsSorted (λ one other. key_cmp (key_lent one) (key_lent other)) items → IsSorted key_cmp (keys_lent items)
ascends_lent items s k d low high =
    let within : k + 1 < length items = omega (arith, high, length-map items key_lent) in
    let later = get_or-map key_lent items (k + 1) nothing d within in
    let one = get_or-map key_lent items k nothing d (omega (arith, within)) in
    ap₂ (λ x y. is_lt (key_cmp x y)) later one ∙ s k nothing low within
