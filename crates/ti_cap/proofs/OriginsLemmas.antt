-- The sets of the places after a pop, a push and a join.
use Rattle.std.proofs.Common.{◌≡◌, ℕ, zero, suc, ◌+◌, ◌<◌, ◌⊎◌, inl, inr, List, [], ◌∷◌, ◌++◌, length, get_or, set, take, drop, refl, sym, ◌∙◌, ap, arith, length-append, length-drop}
use Rattle.std.proofs.lemmas.List.{same_lists, length-set, get_or-set_same, get_or-set_other, get_or-take, get_or-drop, get_or_append_left, get_or-append_right, length-take-le}
use Rattle.ti_cap.specs.declared.parameter_set.ParameterSet.{ParameterSet}
use Rattle.ti_cap.specs.inner.Gathering.{no_parameter, united, join_sets}

below_or_at : (k n : ℕ) → k < suc n → (k < n) ⊎ (k ≡ n)
below_or_at k n h = grind arith

pub popped_sets : (xs ys : List ParameterSet) (z : ParameterSet) → length xs ≡ 32 → length ys ≡ 32
    → ((k : ℕ) (d : ParameterSet) → k < 31 → get_or ys k d ≡ get_or xs (1 + k) d) → set ys 31 z ≡ drop 1 xs ++ z ∷ []
popped_sets xs ys z long same copied =
    same_lists (set ys 31 z) (drop 1 xs ++ z ∷ []) (length-set ys 31 z ∙ omega (arith, length-append (drop 1 xs) (z ∷ []), length-drop 1 xs)) each
  where
    front : length (drop 1 xs) ≡ 31
    front = omega (arith, length-drop 1 xs)

    each : (k : ℕ) (d : ParameterSet) → k < length (set ys 31 z) → get_or (set ys 31 z) k d ≡ get_or (drop 1 xs ++ z ∷ []) k d
    each k d low = elim (below_or_at k 31 (omega (arith, length-set ys 31 z))) [
      | inl lt ↦
          get_or-set_other ys 31 k z d (λ e. omega arith) ∙ copied k d lt ∙ sym (get_or-drop 1 xs k d)
          ∙ sym (get_or_append_left (drop 1 xs) (z ∷ []) d k (omega (arith, front)))
      | inr is ↦
          ap (λ i. get_or (set ys 31 z) i d) is ∙ get_or-set_same ys 31 z d (omega arith)
          ∙ sym (get_or-append_right (drop 1 xs) (z ∷ []) 31 31 d front (omega arith)) ∙ ap (λ i. get_or (drop 1 xs ++ z ∷ []) i d) (sym is)
    ]

pub pushed_sets : (xs ys : List ParameterSet) (z : ParameterSet) → length xs ≡ 32 → length ys ≡ 32
    → ((k : ℕ) (d : ParameterSet) → k < 31 → get_or ys (suc k) d ≡ get_or xs k d) → set ys 0 z ≡ z ∷ take 31 xs
pushed_sets xs ys z long same copied =
    same_lists (set ys 0 z) (z ∷ take 31 xs) (length-set ys 0 z ∙ omega (arith, length-take-le 31 xs (omega arith))) each
  where
    each : (k : ℕ) (d : ParameterSet) → k < length (set ys 0 z) → get_or (set ys 0 z) k d ≡ get_or (z ∷ take 31 xs) k d
    each zero d low = get_or-set_same ys 0 z d (omega arith)
    each (suc k) d low =
        let lt : k < 31 = omega (arith, length-set ys 0 z) in
        get_or-set_other ys 0 (suc k) z d (λ e. omega arith) ∙ copied k d lt ∙ sym (get_or-take 31 xs k d lt)

pub length-join_sets : (xs ys : List ParameterSet) → length xs ≡ length ys → length (join_sets xs ys) ≡ length xs
length-join_sets [] ys e = sym e
length-join_sets (x ∷ xs) [] e = refl
length-join_sets (x ∷ xs) (y ∷ ys) e = ap suc (length-join_sets xs ys (omega arith))

pub get_or-join_sets : (xs ys : List ParameterSet) (k : ℕ) (d e : ParameterSet) → k < length xs → k < length ys
    → get_or (join_sets xs ys) k d ≡ united (get_or xs k e) (get_or ys k e)
get_or-join_sets [] ys k d e h g = absurd (omega arith)
get_or-join_sets (x ∷ xs) [] k d e h g = absurd (omega arith)
get_or-join_sets (x ∷ xs) (y ∷ ys) zero d e h g = refl
get_or-join_sets (x ∷ xs) (y ∷ ys) (suc k) d e h g = get_or-join_sets xs ys k d e (omega arith) (omega arith)

pub joined_sets : (xs ys zs : List ParameterSet) → length xs ≡ 32 → length ys ≡ 32 → length zs ≡ 32
    → ((k : ℕ) → k < 32 → get_or zs k no_parameter ≡ united (get_or xs k no_parameter) (get_or ys k no_parameter)) → zs ≡ join_sets xs ys
joined_sets xs ys zs long other same each =
    same_lists zs (join_sets xs ys) (omega (arith, length-join_sets xs ys (omega arith)))
    (λ k d low. default zs k d no_parameter low ∙ each k (omega arith) ∙ sym (get_or-join_sets xs ys k d no_parameter (omega arith) (omega arith)))
  where
    default : (xs : List ParameterSet) (k : ℕ) (d e : ParameterSet) → k < length xs → get_or xs k d ≡ get_or xs k e
    default [] k d e low = absurd (omega arith)
    default (x ∷ xs) zero d e low = refl
    default (x ∷ xs) (suc k) d e low = default xs k d e (omega arith)
