-- One more number.
use Rattle.std.proofs.Common.{◌≡◌, ◌∙◌, ℕ, ◌+◌, ◌-◌, ◌≤◌, List, [], ◌∷◌, ◌++◌, ap, arith, sym, map, append_assoc}
use Rattle.std.specs.List.{flat_map, range_with_len}
use Rattle.std.proofs.lemmas.List.{flat_map_more, map-id}
use Rattle.std.proofs.lemmas.List.FromFn.{map-range_with_len_more}
use Rattle.ti_values.specs.Ranges.{numbers}

map_more : {X : Type 0} (f : ℕ → X) → (from n : ℕ) → from ≤ n → map f (numbers from (n + 1)) ≡ map f (numbers from n) ++ f n ∷ []
map_more f from n low =
    let e : n + 1 - from ≡ (n - from) + 1 = omega arith in
    ap (λ k. map f (range_with_len from k)) e ∙ map-range_with_len_more f from (n - from) n (omega arith)

numbers_more : (from n : ℕ) → from ≤ n → numbers from (n + 1) ≡ numbers from n ++ n ∷ []
numbers_more from n low =
    sym (map-id (numbers from (n + 1))) ∙ map_more (λ k. k) from n low ∙ ap (λ l. l ++ n ∷ []) (map-id (numbers from n))

-- one more is pushed
pub pushed_more : {X : Type 0} (f : ℕ → X) → (from n : ℕ) (old now new : List X) → from ≤ n → now ≡ old ++ map f (numbers from n)
    → new ≡ now ++ f n ∷ [] → new ≡ old ++ map f (numbers from (n + 1))
pushed_more f from n old now new low is next =
    next ∙ ap (λ l. l ++ f n ∷ []) is ∙ append_assoc old (map f (numbers from n)) (f n ∷ [])
    ∙ ap (λ l. old ++ l) (sym (map_more f from n low))

-- some more are added
pub added_more : {X : Type 0} (f : ℕ → List X) → (n : ℕ) (old now new : List X) → now ≡ old ++ flat_map f (numbers 0 n)
    → new ≡ now ++ f n → new ≡ old ++ flat_map f (numbers 0 (n + 1))
added_more f n old now new is next =
    next ∙ ap (λ l. l ++ f n) is ∙ flat_map_more f old (numbers 0 n) n
    ∙ ap (λ ns. old ++ flat_map f ns) (sym (numbers_more 0 n (omega arith)))
