-- The first of what is left of a list from a place on is what stands at the place.
use Rattle.std.proofs.Common.{◌≡◌, ℕ, zero, suc, List, [], ◌∷◌, drop, slice_get, Some, None, refl, ap}

abbrev head : {X : Type 0} → X → List X → X
head d [] = d
head d (x ∷ xs) = x

pub first_dropped : {X : Type 0} (xs : List X) (place : ℕ) (x : X) (rest : List X) → drop place xs ≡ x ∷ rest → slice_get xs place ≡ Some x
first_dropped [] zero x rest is = absurd cc
first_dropped [] (suc place) x rest is = absurd cc
first_dropped (y ∷ ys) zero x rest is = ap (λ l. Some (head x l)) is
first_dropped (y ∷ ys) (suc place) x rest is = first_dropped ys place x rest is

pub none_dropped : {X : Type 0} (xs : List X) (place : ℕ) → drop place xs ≡ [] → slice_get xs place ≡ None
none_dropped [] place is = refl
none_dropped (y ∷ ys) zero is = absurd cc
none_dropped (y ∷ ys) (suc place) is = none_dropped ys place is
