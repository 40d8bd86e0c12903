-- The front of a list that passes a test, and what stands after it.
use Rattle.std.proofs.Common.{◌≡◌, ℕ, ◌+◌, ◌≤◌, ◌⊎◌, inl, inr, List, [], ◌∷◌, ◌++◌, length, take, drop, one-add, refl, ◌∙◌, ap, arith, append_assoc, cond, Bool, true, false}
use Rattle.std.specs.List.{AllByRecursion, prefix_len}
use Rattle.ti_cap.specs.inner.Lexer.{front, rest}

-- the first byte fails the test
abbrev pub Stops : (ℕ → Bool) → List ℕ → Type 0
Stops p [] = ⊥
Stops p (x ∷ xs) = p x ≡ false

abbrev pub AllPass : (ℕ → Bool) → List ℕ → Type 0
AllPass p xs = AllByRecursion (λ x. p x ≡ true) xs

pub front_stops : (p : ℕ → Bool) (a r : List ℕ) → AllPass p a → Stops p r → front p (a ++ r) ≡ a
front_stops p [] [] h g = absurd g
front_stops p [] (x ∷ r) h g = ap (λ b. cond b (x ∷ front p r) []) g
front_stops p (x ∷ a) r h g = ap (λ b. cond b (x ∷ front p (a ++ r)) []) h.0 ∙ ap (λ y. x ∷ y) (front_stops p a r h.1 g)

pub rest_stops : (p : ℕ → Bool) (a r : List ℕ) → AllPass p a → Stops p r → rest p (a ++ r) ≡ r
rest_stops p [] [] h g = absurd g
rest_stops p [] (x ∷ r) h g = ap (λ b. cond b (rest p r) (x ∷ r)) g
rest_stops p (x ∷ a) r h g = ap (λ b. cond b (rest p (a ++ r)) (x ∷ (a ++ r))) h.0 ∙ rest_stops p a r h.1 g

-- the front as a slice, and what stands after it as one
pub front_take : (p : ℕ → Bool) (xs : List ℕ) → take (prefix_len p xs) xs ≡ front p xs
front_take p [] = refl
front_take p (x ∷ xs) = by_test (p x) (front_take p xs)
  where
    by_test : (b : Bool) → take (prefix_len p xs) xs ≡ front p xs → take (cond b (1 + prefix_len p xs) 0) (x ∷ xs) ≡ cond b (x ∷ front p xs) []
    by_test true h = rw one-add (ap (λ y. x ∷ y) h)
    by_test false h = refl

pub rest_drop : (p : ℕ → Bool) (xs : List ℕ) → drop (prefix_len p xs) xs ≡ rest p xs
rest_drop p [] = refl
rest_drop p (x ∷ xs) = by_test (p x) (rest_drop p xs)
  where
    by_test : (b : Bool) → drop (prefix_len p xs) xs ≡ rest p xs → drop (cond b (1 + prefix_len p xs) 0) (x ∷ xs) ≡ cond b (rest p xs) (x ∷ xs)
    by_test true h = rw one-add h
    by_test false h = refl

pub length-front : (p : ℕ → Bool) (xs : List ℕ) → length (front p xs) ≡ prefix_len p xs
length-front p [] = refl
length-front p (x ∷ xs) = by_test (p x) (length-front p xs)
  where
    by_test : (b : Bool) → length (front p xs) ≡ prefix_len p xs → length (cond b (x ∷ front p xs) []) ≡ cond b (1 + prefix_len p xs) 0
    by_test true h = omega arith
    by_test false h = refl

pub prefix_len_within : (p : ℕ → Bool) (xs : List ℕ) → prefix_len p xs ≤ length xs
prefix_len_within p [] = omega arith
prefix_len_within p (x ∷ xs) = by_test (p x) (prefix_len_within p xs)
  where
    by_test : (b : Bool) → prefix_len p xs ≤ length xs → cond b (1 + prefix_len p xs) 0 ≤ length (x ∷ xs)
    by_test true h = omega arith
    by_test false h = omega arith

pub front_within : (p : ℕ → Bool) (xs : List ℕ) → length (front p xs) ≤ length xs
front_within p xs = omega (arith, length-front p xs, prefix_len_within p xs)

-- what stands after the front, by its length
pub rest_after_front : (p : ℕ → Bool) (xs : List ℕ) → drop (length (front p xs)) xs ≡ rest p xs
rest_after_front p xs = ap (λ n. drop n xs) (length-front p xs) ∙ rest_drop p xs

pub front_and_rest : (p : ℕ → Bool) (xs : List ℕ) → xs ≡ front p xs ++ rest p xs
front_and_rest p [] = refl
front_and_rest p (x ∷ xs) = by_test (p x) (front_and_rest p xs)
  where
    by_test : (b : Bool) → xs ≡ front p xs ++ rest p xs → x ∷ xs ≡ cond b (x ∷ front p xs) [] ++ cond b (rest p xs) (x ∷ xs)
    by_test true h = ap (λ y. x ∷ y) h
    by_test false h = refl

pub front_passes : (p : ℕ → Bool) (xs : List ℕ) → AllPass p (front p xs)
front_passes p [] = tt
front_passes p (x ∷ xs) = by_test (p x) refl (front_passes p xs)
  where
    by_test : (b : Bool) → p x ≡ b → AllPass p (front p xs) → AllPass p (cond b (x ∷ front p xs) [])
    by_test true e h = (e, h)
    by_test false e h = tt

-- all pass, or some byte stops them
pub rest_ends : (p : ℕ → Bool) (xs : List ℕ) → (rest p xs ≡ []) ⊎ Stops p (rest p xs)
rest_ends p [] = inl refl
rest_ends p (x ∷ xs) = by_test (p x) refl (rest_ends p xs)
  where
    by_test : (b : Bool) → p x ≡ b → (rest p xs ≡ []) ⊎ Stops p (rest p xs) → (cond b (rest p xs) (x ∷ xs) ≡ []) ⊎ Stops p (cond b (rest p xs) (x ∷ xs))
    by_test true e h = h
    by_test false e h = inr e

stops_more : (p : ℕ → Bool) (r more : List ℕ) → Stops p r → Stops p (r ++ more)
stops_more p [] more h = absurd h
stops_more p (x ∷ r) more h = h

-- if some byte stops them, what follows changes nothing
pub front_more : (p : ℕ → Bool) (xs more : List ℕ) → Stops p (rest p xs) → front p (xs ++ more) ≡ front p xs
front_more p xs more h =
    ap (λ x. front p (x ++ more)) (front_and_rest p xs) ∙ ap (λ x. front p x) (append_assoc (front p xs) (rest p xs) more)
    ∙ front_stops p (front p xs) (rest p xs ++ more) (front_passes p xs) (stops_more p (rest p xs) more h)

pub rest_more : (p : ℕ → Bool) (xs more : List ℕ) → Stops p (rest p xs) → rest p (xs ++ more) ≡ rest p xs ++ more
rest_more p xs more h =
    ap (λ x. rest p (x ++ more)) (front_and_rest p xs) ∙ ap (λ x. rest p x) (append_assoc (front p xs) (rest p xs) more)
    ∙ rest_stops p (front p xs) (rest p xs ++ more) (front_passes p xs) (stops_more p (rest p xs) more h)

-- what follows only makes the front longer
pub front_grows : (p : ℕ → Bool) (xs more : List ℕ) → (longer : List ℕ) × (front p (xs ++ more) ≡ front p xs ++ longer)
front_grows p [] more = (front p more, refl)
front_grows p (x ∷ xs) more = by_test (p x) (front_grows p xs more)
  where
    by_test : (b : Bool) → (longer : List ℕ) × (front p (xs ++ more) ≡ front p xs ++ longer)
        → (longer : List ℕ) × (cond b (x ∷ front p (xs ++ more)) [] ≡ cond b (x ∷ front p xs) [] ++ longer)
    by_test true (longer, e) = (longer, ap (λ y. x ∷ y) e)
    by_test false h = ([], refl)
