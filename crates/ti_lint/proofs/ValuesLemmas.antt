-- The places of values, by their bits, against the values on the stack after a path.
use Rattle.std.proofs.Common.{◌≡◌, ℕ, zero, suc, ◌+◌, ◌*◌, ◌/◌, ◌%◌, ◌^◌, ◌<◌, ◌≤◌, ◌⊎◌, inl, inr, ◌↔◌, List, [], ◌∷◌, ◌++◌, length, drop, replicate, get_or, refl, sym, ◌∙◌, ap, arith, Bool, true, false, bit_or}
use Rattle.std.specs.Prelude.{Option, None}
use Rattle.std.specs.Int.{bit_at}
use Rattle.std.proofs.lemmas.List.{length-replicate, get_or-drop}
use Rattle.std.proofs.Common.{length-append, length-drop}
use Rattle.std.proofs.lemmas.Nat.Bits.{bit_at-suc, bit_at_or, bit_at-lt, bit_at-pow_same, bit_at-pow_other}
use Rattle.ti_cap.specs.declared.language.Token.{Token}
use Rattle.ti_cap.specs.Height.{pops, pushes, next_height, end_height}
use Rattle.ti_cap.specs.Sources.{source, next_sources, sources_from}
use Rattle.ti_lint.specs.declared.values.Source.{Source}
use Rattle.ti_lint.specs.declared.values.Source.TheVariants.{First, Second, Third, Other}
use Rattle.ti_lint.specs.declared.values.Values.{Values}
use Rattle.ti_lint.specs.inner.Values.{source_of, same_source, mask_of, no_values, either_values, dropped, pushed, moved, after_values}
use Rattle.ti_lint.proofs.HeightsLemmas.{has_raised, has_either}

abbrev pub HasValue : Values → Source → ℕ → Type 0
HasValue v one place = bit_at (mask_of one v) place ≡ 1

-- a value from the source is at a place of the stack
abbrev pub IsAtPlace : List (Option ℕ) → ℕ → Source → Type 0
IsAtPlace stack place one = (place < length stack) × (source_of (get_or stack place None) ≡ one)

-- ---- none, either, and after a token

pub none_is : (one : Source) → mask_of one no_values ≡ 0
none_is First = refl
none_is Second = refl
none_is Third = refl
none_is Other = refl

either_is : (a b : Values) (one : Source) → mask_of one (either_values a b) ≡ bit_or (mask_of one a) (mask_of one b)
either_is a b First = refl
either_is a b Second = refl
either_is a b Third = refl
either_is a b Other = refl

pub after_is : (k : Token) (v : Values) (one : Source) → mask_of one (after_values k v) ≡ moved k one (mask_of one v)
after_is k v First = refl
after_is k v Second = refl
after_is k v Third = refl
after_is k v Other = refl

pub has_either_value : (a b : Values) (one : Source) (place : ℕ) → HasValue (either_values a b) one place ↔ (HasValue a one place ⊎ HasValue b one place)
has_either_value a b one place =
    let e : bit_at (mask_of one (either_values a b)) place ≡ bit_at (bit_or (mask_of one a) (mask_of one b)) place = ap (λ x. bit_at x place) (either_is a b one) in
    let h = has_either (record { mask = mask_of one a }) (record { mask = mask_of one b }) place in
    ((λ x. h.0 (sym e ∙ x)), (λ x. e ∙ h.1 x))

-- ---- pops

pub dropped_is : (p mask i : ℕ) → bit_at (dropped p mask) i ≡ bit_at mask (p + i)
dropped_is zero mask i = ap (λ x. bit_at mask x) (omega arith)
dropped_is (suc p) mask i =
    dropped_is p (mask / 2 ^ 1) i ∙ sym (bit_at-suc mask (p + i)) ∙ ap (λ x. bit_at mask x) (omega arith)

dropped_place : (stack : List (Option ℕ)) (p j : ℕ) (one : Source) → IsAtPlace (drop p stack) j one ↔ IsAtPlace stack (p + j) one
dropped_place stack p j one = (
  (λ a. (omega (arith, a.0, length-drop p stack), ap source_of (sym (get_or-drop p stack j None)) ∙ a.1)),
  (λ a. (omega (arith, a.0, length-drop p stack), ap source_of (get_or-drop p stack j None) ∙ a.1)),
)

-- ---- pushes

same_is : (a b : Source) → (same_source a b ≡ true) ↔ (b ≡ a)
same_is First First = ((λ e. refl), (λ e. refl))
same_is Second Second = ((λ e. refl), (λ e. refl))
same_is Third Third = ((λ e. refl), (λ e. refl))
same_is Other Other = ((λ e. refl), (λ e. refl))
same_is a b = ((λ e. absurd (cc)), (λ e. absurd (cc)))

abbrev pub IsLowMask : ℕ → Type 0
IsLowMask mask = (j : ℕ) → bit_at mask j ≡ 1 → j < 63

raised_top : (mask : ℕ) → IsLowMask mask → bit_at (mask * 2 ^ 1 % 2 ^ 64) 0 ≡ 0
raised_top mask low = either (bit_at (mask * 2 ^ 1 % 2 ^ 64) 0) refl (bit_at-lt (mask * 2 ^ 1 % 2 ^ 64) 0)
  where
    either : (x : ℕ) → bit_at (mask * 2 ^ 1 % 2 ^ 64) 0 ≡ x → x < 2 → bit_at (mask * 2 ^ 1 % 2 ^ 64) 0 ≡ 0
    either zero e less = e
    either (suc zero) e less = let c = (has_raised (record { mask = mask }) 0 low).0 e in absurd (omega (arith, c.2))
    either (suc (suc x)) e less = absurd (omega arith)

-- what stands at a place after a push was pushed, or stood one place above
pushed_bit : (is_top : Bool) (mask i : ℕ) → IsLowMask mask → (bit_at (pushed 1 is_top mask) (suc i) ≡ 1) ↔ (bit_at mask i ≡ 1)
pushed_bit is_top mask i low = by is_top
  where
    r : (bit_at (mask * 2 ^ 1 % 2 ^ 64) (suc i) ≡ 1) ↔ (bit_at mask i ≡ 1)
    r = let h = has_raised (record { mask = mask }) (suc i) low in (
      (λ e. let c = h.0 e in let same : c.0 ≡ i = omega (arith, c.2) in ap (λ x. bit_at mask x) (sym same) ∙ c.1),
      (λ e. h.1 (i, e, omega arith)),
    )

    one : bit_at (bit_or (mask * 2 ^ 1 % 2 ^ 64) 1) (suc i) ≡ bit_at (mask * 2 ^ 1 % 2 ^ 64) (suc i)
    one = bit_at_or (mask * 2 ^ 1 % 2 ^ 64) 1 (suc i) ∙ omega (arith, bit_at-pow_other 0 (suc i) (λ e. omega arith))

    by : (b : Bool) → (bit_at (pushed 1 b mask) (suc i) ≡ 1) ↔ (bit_at mask i ≡ 1)
    by true = ((λ e. r.0 (sym one ∙ e)), (λ e. one ∙ r.1 e))
    by false = r

pushed_top : (is_top : Bool) (mask : ℕ) → IsLowMask mask → (bit_at (pushed 1 is_top mask) 0 ≡ 1) ↔ (is_top ≡ true)
pushed_top true mask low = ((λ e. refl), (λ e. bit_at_or (mask * 2 ^ 1 % 2 ^ 64) 1 0 ∙ omega (arith, bit_at-pow_same 0, bit_at-lt (mask * 2 ^ 1 % 2 ^ 64) 0)))
pushed_top false mask low = ((λ e. absurd (omega (arith, e, raised_top mask low))), (λ e. absurd (cc)))

-- the places after a token, by those before it
pub value_there : (n p : ℕ) (o : Option ℕ) (mask : ℕ) (one : Source) (i : ℕ) → n ≤ 1 → IsLowMask mask → bit_at (pushed n (same_source one (source_of o)) (dropped p mask)) i ≡ 1
    → ((stack : List (Option ℕ)) → IsAtPlace (replicate n o ++ drop p stack) i one)
    ⊎ ((j : ℕ) × (bit_at mask j ≡ 1) × ((stack : List (Option ℕ)) → IsAtPlace stack j one → IsAtPlace (replicate n o ++ drop p stack) i one))
value_there zero p o mask one i few low e =
    inr (p + i, sym (dropped_is p mask i) ∙ e, (λ stack a. (dropped_place stack p i one).1 a))
value_there (suc zero) p o mask one zero few low e =
    inl (λ stack. (omega arith, (same_is one (source_of o)).0 ((pushed_top (same_source one (source_of o)) (dropped p mask) (low_drop p mask low)).0 e)))
  where
    low_drop : (q m : ℕ) → IsLowMask m → IsLowMask (dropped q m)
    low_drop q m l j f = omega (arith, l (q + j) (sym (dropped_is q m j) ∙ f))
value_there (suc zero) p o mask one (suc i) few low e =
    inr (
      p + i,
      sym (dropped_is p mask i) ∙ (pushed_bit (same_source one (source_of o)) (dropped p mask) i (low_drop p mask low)).0 e,
      (λ stack a. let d = (dropped_place stack p i one).1 a in (omega (arith, d.0), d.1)),
    )
  where
    low_drop : (q m : ℕ) → IsLowMask m → IsLowMask (dropped q m)
    low_drop q m l j f = omega (arith, l (q + j) (sym (dropped_is q m j) ∙ f))
value_there (suc (suc n)) p o mask one i few low e = absurd (omega arith)

pub value_back : (n p : ℕ) (o : Option ℕ) (mask : ℕ) (one : Source) (i : ℕ) (stack : List (Option ℕ)) → n ≤ 1 → IsLowMask mask → IsAtPlace (replicate n o ++ drop p stack) i one
    → ((j : ℕ) → IsAtPlace stack j one → bit_at mask j ≡ 1) → bit_at (pushed n (same_source one (source_of o)) (dropped p mask)) i ≡ 1
value_back zero p o mask one i stack few low a old = dropped_is p mask i ∙ old (p + i) ((dropped_place stack p i one).0 a)
value_back (suc zero) p o mask one zero stack few low a old =
    (pushed_top (same_source one (source_of o)) (dropped p mask) (λ j f. omega (arith, low (p + j) (sym (dropped_is p mask j) ∙ f)))).1 ((same_is one (source_of o)).1 a.1)
value_back (suc zero) p o mask one (suc i) stack few low a old =
    (pushed_bit (same_source one (source_of o)) (dropped p mask) i (λ j f. omega (arith, low (p + j) (sym (dropped_is p mask j) ∙ f)))).1
    (dropped_is p mask i ∙ old (p + i) ((dropped_place stack p i one).0 (omega (arith, a.0), a.1)))
value_back (suc (suc n)) p o mask one i stack few low a old = absurd (omega arith)

-- ---- the stack after a path

pub sources-snoc : (stack : List (Option ℕ)) (path : List Token) (k : Token) → sources_from stack (path ++ k ∷ []) ≡ next_sources (sources_from stack path) k
sources-snoc stack [] k = refl
sources-snoc stack (l ∷ path) k = sources-snoc (next_sources stack l) path k

length-next : (stack : List (Option ℕ)) (k : Token) → length (next_sources stack k) ≡ next_height (length stack) k
length-next stack k =
    length-append (replicate (pushes k) (source k)) (drop (pops k) stack)
    ∙ omega (arith, length-replicate (pushes k) (source k), length-drop (pops k) stack)

pub length-sources : (stack : List (Option ℕ)) (path : List Token) → length (sources_from stack path) ≡ end_height (length stack) path
length-sources stack [] = refl
length-sources stack (k ∷ path) = length-sources (next_sources stack k) path ∙ ap (λ h. end_height h path) (length-next stack k)
