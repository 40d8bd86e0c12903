-- A fact of a path, and whether the facts of a place say that it is true of some path.
use Rattle.std.proofs.Common.{◌≡◌, ◌≢◌, ℕ, zero, suc, ◌-◌, ◌^◌, ◌≤◌, min, max, ◌⊎◌, inl, inr, ◌↔◌, List, [], ◌∷◌, ◌++◌, refl, sym, ◌∙◌, ap, subst, arith, Bool, true, false, ◌||◌, nat_eq, Contains, bit_and}
use Rattle.std.specs.Int.{bit_at}
use Rattle.std.proofs.lemmas.Nat.Bits.{bit_at_and, bit_at_or, bit_at-zero, bit_at-pow_same, bit_at-pow_other, bit_at_ones}
use Rattle.std.proofs.lemmas.List.Elements.{Contains-append_left, Contains-append_right, Contains-append_cases}
use Rattle.ti_cap.specs.declared.language.Token.{Token}
use Rattle.ti_cap.specs.declared.language.Token.TheVariants.{Param, Store, Increment}
use Rattle.ti_cap.specs.Height.{next_height, end_height}
use Rattle.ti_cap.specs.Sources.{sources}
use Rattle.ti_lint.specs.declared.values.Source.{Source}
use Rattle.ti_lint.specs.declared.variables.Variables.{Variables}
use Rattle.ti_lint.specs.declared.facts.Facts.{Facts}
use Rattle.ti_lint.specs.Findings.{NamesFirstTwo}
use Rattle.ti_lint.specs.inner.Facts.{no_facts, first_facts, joined, after_increment, is_first_two, after_stores, place_of, stored_also, IsLettered}
use Rattle.ti_lint.proofs.HeightsLemmas.{HasHeight, has_either}
use Rattle.ti_lint.proofs.ValuesLemmas.{HasValue, IsAtPlace, none_is, has_either_value}

-- a fact of a path
pub data Fact : Type 0 where
  -- the height after it
  HeightIs : ℕ → Fact
  -- it has a `%i`
  Incremented : Fact
  -- it pushes the first or the second parameter
  Named : Fact
  -- nothing was stored into the variable
  Unset : ℕ → Fact
  -- it leaves a value from the source at the place, counted from the top
  ValueIs : ℕ → Source → Fact

abbrev pub Says : Fact → List Token → Type 0
Says (HeightIs h) path = end_height 0 path ≡ h
Says Incremented path = Contains path Increment
Says Named path = NamesFirstTwo path
Says (Unset which) path = ¬ Contains path (Store which)
Says (ValueIs place one) path = IsAtPlace (sources path) place one

abbrev pub Has : Facts → Fact → Type 0
Has f (HeightIs h) = HasHeight f.heights h
Has f Incremented = f.incremented ≡ true
Has f Named = f.named_first_two ≡ true
Has f (Unset which) = bit_at f.stored.mask (place_of which) ≡ 0
Has f (ValueIs place one) = HasValue f.values one place

-- a variable has a place in the set
abbrev pub IsFit : Fact → Type 0
IsFit (Unset which) = (65 ≤ which) × (which ≤ 122)
IsFit fact = Unit {0}

pub has_nothing : (fact : Fact) → IsFit fact → ¬ Has no_facts fact
has_nothing (HeightIs h) fit a = omega (arith, a, bit_at-zero h)
has_nothing Incremented fit a = absurd (cc)
has_nothing Named fit a = absurd (cc)
has_nothing (Unset which) fit a = omega (arith, a, bit_at_ones 64 (which - 65) (omega arith))
has_nothing (ValueIs place one) fit a = omega (arith, sym (ap (λ x. bit_at x place) (none_is one)) ∙ a, bit_at-zero place)

pub either_true : (a b : Bool) → (a || b ≡ true) ↔ ((a ≡ true) ⊎ (b ≡ true))
either_true true b = ((λ e. inl refl), (λ e. refl))
either_true false b = ((λ e. inr e), other)
  where
    other : (false ≡ true) ⊎ (b ≡ true) → b ≡ true
    other (inl e) = absurd (cc)
    other (inr e) = e

either_zero : (x y : ℕ) → (min x y ≡ 0) ↔ ((x ≡ 0) ⊎ (y ≡ 0))
either_zero x y = (apart, together)
  where
    apart : min x y ≡ 0 → (x ≡ 0) ⊎ (y ≡ 0)
    apart e = grind arith

    together : (x ≡ 0) ⊎ (y ≡ 0) → min x y ≡ 0
    together (inl e) = omega arith
    together (inr e) = omega arith

pub has_joined : (a b : Facts) (fact : Fact) → Has (joined a b) fact ↔ (Has a fact ⊎ Has b fact)
has_joined a b (HeightIs h) = has_either a.heights b.heights h
has_joined a b Incremented = either_true a.incremented b.incremented
has_joined a b Named = either_true a.named_first_two b.named_first_two
has_joined a b (ValueIs place one) = has_either_value a.values b.values one place
has_joined a b (Unset which) =
    let e : bit_at (bit_and a.stored.mask b.stored.mask) (place_of which) ≡ min (bit_at a.stored.mask (place_of which)) (bit_at b.stored.mask (place_of which)) =
    bit_at_and a.stored.mask b.stored.mask (place_of which) in
    let z : (min (bit_at a.stored.mask (place_of which)) (bit_at b.stored.mask (place_of which)) ≡ 0)
    ↔ ((bit_at a.stored.mask (place_of which) ≡ 0) ⊎ (bit_at b.stored.mask (place_of which) ≡ 0)) =
    either_zero (bit_at a.stored.mask (place_of which)) (bit_at b.stored.mask (place_of which)) in
    ((λ h. z.0 (sym e ∙ h)), (λ h. e ∙ z.1 h))

-- ---- the empty path

pub nothing_in : (token : Token) → ¬ Contains [] token
nothing_in token (i, low, e) = omega arith

pub names_nothing : ¬ NamesFirstTwo []
names_nothing (inl c) = nothing_in (Param 1) c
names_nothing (inr c) = nothing_in (Param 2) c

only_zero : (h : ℕ) → bit_at 1 h ≡ 1 → h ≡ 0
only_zero zero e = refl
only_zero (suc h) e = let away : suc h ≢ 0 = omega arith in absurd (omega (arith, e, bit_at-pow_other 0 (suc h) away))

pub has_first : (fact : Fact) → Has first_facts fact ↔ Says fact []
has_first (HeightIs h) = ((λ a. sym (only_zero h a)), (λ e. let P : ℕ → Type 0 = λ x. bit_at 1 x ≡ 1 in subst P e (bit_at-pow_same 0)))
has_first Incremented = ((λ a. absurd (cc (a))), (λ c. absurd (nothing_in Increment c)))
has_first Named = ((λ a. absurd (cc (a))), (λ c. absurd (names_nothing c)))
has_first (Unset which) = ((λ a. nothing_in (Store which)), (λ n. bit_at-zero (place_of which)))
has_first (ValueIs place one) = (
  (λ a. absurd (omega (arith, sym (ap (λ x. bit_at x place) (none_is one)) ∙ a, bit_at-zero place))),
  (λ s. absurd (omega (arith, s.0))),
)

-- ---- one token more

pub height-snoc : (h : ℕ) (path : List Token) (k : Token) → end_height h (path ++ k ∷ []) ≡ next_height (end_height h path) k
height-snoc h [] k = refl
height-snoc h (l ∷ path) k = height-snoc (next_height h l) path k

one_is : {X : Type 0} (k l : X) → Contains (k ∷ []) l ↔ (k ≡ l)
one_is {X = X} k l = (first, (λ e. (0, omega arith, e)))
  where
    first : Contains (k ∷ []) l → k ≡ l
    first (zero, low, e) = e
    first (suc i, low, e) = absurd (omega arith)

pub contains-snoc : {X : Type 0} (path : List X) (k l : X) → Contains (path ++ k ∷ []) l ↔ (Contains path l ⊎ (k ≡ l))
contains-snoc {X = X} path k l = (apart, together)
  where
    apart : Contains (path ++ k ∷ []) l → Contains path l ⊎ (k ≡ l)
    apart h = elim (Contains-append_cases path (k ∷ []) l h) [ inl old ↦ inl old | inr new ↦ inr ((one_is k l).0 new) ]

    together : Contains path l ⊎ (k ≡ l) → Contains (path ++ k ∷ []) l
    together (inl old) = Contains-append_left path (k ∷ []) l old
    together (inr e) = Contains-append_right path (k ∷ []) l ((one_is k l).1 e)

pub contains-cons : {X : Type 0} (k : X) (path : List X) (l : X) → Contains (k ∷ path) l ↔ (Contains path l ⊎ (k ≡ l))
contains-cons {X = X} k path l = (apart, together)
  where
    apart : Contains (k ∷ path) l → Contains path l ⊎ (k ≡ l)
    apart h = elim (Contains-append_cases (k ∷ []) path l h) [ inl new ↦ inr ((one_is k l).0 new) | inr old ↦ inl old ]

    together : Contains path l ⊎ (k ≡ l) → Contains (k ∷ path) l
    together (inl old) = Contains-append_right (k ∷ []) path l old
    together (inr e) = Contains-append_left (k ∷ []) path l ((one_is k l).1 e)

-- ---- the first two parameters

abbrev pub IsFirstTwo : Token → Type 0
IsFirstTwo k = (k ≡ Param 1) ⊎ (k ≡ Param 2)

-- a path that is longer by a token names what the rest does, and what the token is
pub names_longer : (k : Token) (path longer : List Token) → ((l : Token) → Contains longer l ↔ (Contains path l ⊎ (k ≡ l)))
    → NamesFirstTwo longer ↔ (NamesFirstTwo path ⊎ IsFirstTwo k)
names_longer k path longer each = (apart, together)
  where
    apart : NamesFirstTwo longer → NamesFirstTwo path ⊎ IsFirstTwo k
    apart (inl c) = elim ((each (Param 1)).0 c) [ inl old ↦ inl (inl old) | inr e ↦ inr (inl e) ]
    apart (inr c) = elim ((each (Param 2)).0 c) [ inl old ↦ inl (inr old) | inr e ↦ inr (inr e) ]

    together : NamesFirstTwo path ⊎ IsFirstTwo k → NamesFirstTwo longer
    together (inl (inl c)) = inl ((each (Param 1)).1 (inl c))
    together (inl (inr c)) = inr ((each (Param 2)).1 (inl c))
    together (inr (inl e)) = inl ((each (Param 1)).1 (inr e))
    together (inr (inr e)) = inr ((each (Param 2)).1 (inr e))

first_two_is : (k : Token) → (is_first_two k ≡ true) ↔ IsFirstTwo k
first_two_is (Param which) = (there, back)
  where
    there : nat_eq which 1 || nat_eq which 2 ≡ true → IsFirstTwo (Param which)
    there e = elim ((either_true (nat_eq which 1) (nat_eq which 2)).0 e) [
      | inl a ↦ let one : which ≡ 1 = grind arith in inl (ap (λ x. Param x) one)
      | inr a ↦ let two : which ≡ 2 = grind arith in inr (ap (λ x. Param x) two)
    ]

    same : (n : ℕ) → Param which ≡ Param n → which ≡ n
    same n e = cc

    back : IsFirstTwo (Param which) → nat_eq which 1 || nat_eq which 2 ≡ true
    back (inl e) = ap (λ x. nat_eq x 1 || nat_eq x 2) (same 1 e)
    back (inr e) = ap (λ x. nat_eq x 1 || nat_eq x 2) (same 2 e)
first_two_is k = ((λ e. absurd (cc)), other)
  where
    other : IsFirstTwo k → false ≡ true
    other (inl e) = absurd (cc)
    other (inr e) = absurd (cc)

pub has_first_two : (k : Token) (met : Bool) → (met || is_first_two k ≡ true) ↔ ((met ≡ true) ⊎ IsFirstTwo k)
has_first_two k met = (apart, together)
  where
    apart : met || is_first_two k ≡ true → (met ≡ true) ⊎ IsFirstTwo k
    apart e = elim ((either_true met (is_first_two k)).0 e) [ inl a ↦ inl a | inr a ↦ inr ((first_two_is k).0 a) ]

    together : (met ≡ true) ⊎ IsFirstTwo k → met || is_first_two k ≡ true
    together (inl a) = (either_true met (is_first_two k)).1 (inl a)
    together (inr a) = (either_true met (is_first_two k)).1 (inr ((first_two_is k).1 a))

pub has_increment : (k : Token) (met : Bool) → (after_increment k met ≡ true) ↔ ((met ≡ true) ⊎ (k ≡ Increment))
has_increment Increment met = ((λ e. inr refl), (λ e. refl))
has_increment k met = ((λ e. inl e), other)
  where
    other : (met ≡ true) ⊎ (k ≡ Increment) → met ≡ true
    other (inl e) = e
    other (inr e) = absurd (cc)

near : (a b : ℕ) → (a ≡ b) ⊎ (a ≢ b)
near a b = grind arith

pub has_store : (k : Token) (set : Variables) (which : ℕ) → IsLettered k → 65 ≤ which
    → (bit_at (after_stores k set).mask (place_of which) ≡ 0) ↔ ((bit_at set.mask (place_of which) ≡ 0) × (k ≢ Store which))
has_store (Store one) set which fit low = (there, back)
  where
    is : bit_at (stored_also one set).mask (place_of which) ≡ max (bit_at set.mask (place_of which)) (bit_at (2 ^ place_of one) (place_of which))
    is = bit_at_or set.mask (2 ^ place_of one) (place_of which)

    there : bit_at (stored_also one set).mask (place_of which) ≡ 0 → (bit_at set.mask (place_of which) ≡ 0) × (Store one ≢ Store which)
    there e = (omega (arith, is), differs)
      where
        differs : Store one ≢ Store which
        differs s =
            let same : place_of one ≡ place_of which = ap place_of (cc) in
            let b : bit_at (2 ^ place_of one) (place_of which) ≡ 1 = ap (λ x. bit_at (2 ^ place_of one) x) (sym same) ∙ bit_at-pow_same (place_of one) in
            omega (arith, is)

    back : (bit_at set.mask (place_of which) ≡ 0) × (Store one ≢ Store which) → bit_at (stored_also one set).mask (place_of which) ≡ 0
    back (z, n) = elim (near (place_of which) (place_of one)) [
      | inl e ↦ let same : one ≡ which = omega (arith, fit.0) in absurd (n (ap (λ x. Store x) same))
      | inr away ↦ omega (arith, is, z, bit_at-pow_other (place_of one) (place_of which) away)
    ]
has_store k set which fit low = ((λ e. (e, (λ s. absurd (cc)))), (λ p. p.0))
