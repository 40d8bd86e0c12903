-- The list of findings is one.
use Rattle.std.proofs.Common.{◌≡◌, ℕ, zero, suc, ◌⊎◌, inl, inr, ◌↔◌, List, [], ◌∷◌, refl, sym, ◌∙◌, ap, subst, arith, Contains, AllPairs}
use Rattle.ti_lint.specs.declared.expected.Expected.{Expected}
use Rattle.ti_lint.specs.declared.placed_finding.PlacedFinding.{PlacedFinding}
use Rattle.ti_lint.specs.Found.{IsFoundAt, Precedes}

-- ---- lists in a strict order with the same members

-- a member is the first or one of the others
first_or_later : {X : Type 0} (x : X) (xs : List X) (one : X) → Contains (x ∷ xs) one → (x ≡ one) ⊎ Contains xs one
first_or_later x xs one (zero, within, is) = inl is
first_or_later x xs one (suc k, within, is) = inr (k, omega arith, is)

first_in : {X : Type 0} (x : X) (xs : List X) → Contains (x ∷ xs) x
first_in x xs = (0, omega arith, refl)

later_in : {X : Type 0} (x : X) (xs : List X) (one : X) → Contains xs one → Contains (x ∷ xs) one
later_in x xs one (k, within, is) = (suc k, omega arith, is)

none_in : {X : Type 0} (one : X) → Contains [] one → ⊥
none_in one (k, within, is) = absurd (omega arith)

-- the first comes before each later one
first_before : {X : Type 0} (Before : X → X → Type 0) (x : X) (xs : List X) (one : X) → AllPairs Before (x ∷ xs) → Contains xs one → Before x one
first_before {X} Before x xs one order (k, within, is) = let P : X → Type 0 = λ y. Before x y in subst P is (order 0 (suc k) one (omega arith) (omega arith))

later_ordered : {X : Type 0} (Before : X → X → Type 0) (x : X) (xs : List X) → AllPairs Before (x ∷ xs) → AllPairs Before xs
later_ordered Before x xs order = λ i j d less within. order (suc i) (suc j) d (omega arith) (omega arith)

pub same_ordered : {X : Type 0} (Before : X → X → Type 0) (strict : (x y : X) → Before x y → Before y x → ⊥) (xs ys : List X) → AllPairs Before xs → AllPairs Before ys
    → ((one : X) → Contains xs one ↔ Contains ys one) → xs ≡ ys
same_ordered Before strict [] [] order other same = refl
same_ordered Before strict [] (y ∷ ys) order other same = absurd (none_in y ((same y).1 (first_in y ys)))
same_ordered Before strict (x ∷ xs) [] order other same = absurd (none_in x ((same x).0 (first_in x xs)))
same_ordered {X} Before strict (x ∷ xs) (y ∷ ys) order other same = ap (λ z. z ∷ xs) first ∙ ap (λ zs. y ∷ zs) (same_ordered Before strict xs ys (later_ordered Before x xs order) (later_ordered Before y ys other) rest)
  where
    first : x ≡ y
    first = elim (first_or_later y ys x ((same x).0 (first_in x xs))) [
      | inl e ↦ sym e
      | inr c ↦ elim (first_or_later x xs y ((same y).1 (first_in y ys))) [
        | inl e ↦ e
        | inr d ↦ absurd (strict x y (first_before Before x xs y order d) (first_before Before y ys x other c))
      ]
    ]

    -- the first is none of the later ones
    never : (zs : List X) (z one : X) → AllPairs Before (z ∷ zs) → z ≡ one → Contains zs one → ⊥
    never zs z one up e c =
        let P : X → Type 0 = λ w. Before w one in
        let b : Before one one = subst P e (first_before Before z zs one up c) in
        strict one one b b

    rest : (one : X) → Contains xs one ↔ Contains ys one
    rest one = (there, back)
      where
        there : Contains xs one → Contains ys one
        there c = elim (first_or_later y ys one ((same one).0 (later_in x xs one c))) [
          | inl e ↦ absurd (never xs x one order (first ∙ e) c)
          | inr d ↦ d
        ]

        back : Contains ys one → Contains xs one
        back c = elim (first_or_later x xs one ((same one).1 (later_in y ys one c))) [
          | inl e ↦ absurd (never ys y one other (sym first ∙ e) c)
          | inr d ↦ d
        ]

-- ---- findings

strictly : (one other : PlacedFinding) → Precedes one other → Precedes other one → ⊥
strictly one other (inl less) (inl more) = omega arith
strictly one other (inl less) (inr (is, more)) = omega arith
strictly one other (inr (is, less)) (inl more) = omega arith
strictly one other (inr (is, less)) (inr (same, more)) = omega arith

-- the findings of a capability are one list
pub one_found : (bytes : List ℕ) (expected : Expected) (founds others : List PlacedFinding)
    → ((one : PlacedFinding) → Contains founds one ↔ IsFoundAt bytes expected one) → AllPairs Precedes founds
    → ((one : PlacedFinding) → Contains others one ↔ IsFoundAt bytes expected one) → AllPairs Precedes others → founds ≡ others
one_found bytes expected founds others exact order same again =
    same_ordered Precedes strictly founds others order again (λ one. ((λ c. (same one).1 ((exact one).0 c)), (λ c. (exact one).1 ((same one).0 c))))
