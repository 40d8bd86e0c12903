-- The sets of the places, against the stacks that walks come to.
use Rattle.std.proofs.Common.{◌≡◌, ℕ, zero, suc, ◌+◌, ◌<◌, ◌≤◌, ◌⊎◌, inl, inr, ◌↔◌, List, [], ◌∷◌, ◌++◌, length, get_or, set, take, drop, replicate, refl, sym, ◌∙◌, ap, subst, arith, length-append}
use Rattle.std.specs.Prelude.{Option, Some, None}
use Rattle.std.proofs.lemmas.List.{get_or-take, get_or_past, length-take, length-replicate, drop-drop}
use Rattle.ti_base.specs.Limits.{most_values}
use Rattle.ti_cap.specs.declared.language.Token.{Token}
use Rattle.ti_cap.specs.declared.language.Token.TheVariants.{Param, Compute}
use Rattle.ti_cap.specs.declared.parameter_set.ParameterSet.{ParameterSet}
use Rattle.ti_cap.specs.declared.origins.Origins.{Origins}
use Rattle.ti_cap.specs.Height.{pops, pushes}
use Rattle.ti_cap.specs.Sources.{source, next_sources, Has}
use Rattle.ti_cap.specs.inner.Gathering.{no_parameter, only, no_origins, popped, pushed, join_sets, joined, after_pops, after_pushes, named_by, after_token}
use Rattle.ti_cap.proofs.HasLemmas.{has_none, has_united, has_only}
use Rattle.ti_cap.proofs.ReachesLemmas.{Moved}

-- the parameters on the stacks of a set, by their places from the top
abbrev pub Stack : Type 0
Stack = List (Option ℕ)

abbrev pub Lies : (Stack → Type 0) → ℕ → ℕ → Type 0
Lies within i which = (stack : Stack) × within stack × (get_or stack i None ≡ Some which)

-- the sets of the places are exactly those of the stacks of a set
abbrev pub Holds : Origins → (Stack → Type 0) → Type 0
Holds o within = (i which : ℕ) → Has (get_or o.sets i no_parameter) which ↔ Lies within i which

-- the same stacks
pub holds_same : (o : Origins) (old new : Stack → Type 0) → ((x : Stack) → old x ↔ new x) → Holds o old → Holds o new
holds_same o old new same h i which =
    ((λ a. let l : Lies old i which = (h i which).0 a in (l.0, (same l.0).0 l.1, l.2)), (λ l. (h i which).1 (l.0, (same l.0).1 l.1, l.2)))

all_none : (n i : ℕ) → get_or (replicate n no_parameter) i no_parameter ≡ no_parameter
all_none zero i = refl
all_none (suc n) zero = refl
all_none (suc n) (suc i) = all_none n i

none_has : (i which : ℕ) → ¬ Has (get_or no_origins.sets i no_parameter) which
none_has i which h = has_none which (let P : ParameterSet → Type 0 = λ x. Has x which in subst P (all_none most_values i) h)

-- no stack
pub holds_nothing : (within : Stack → Type 0) → ((x : Stack) → ¬ within x) → Holds no_origins within
holds_nothing within none i which = ((λ h. absurd (none_has i which h)), (λ l. absurd (none l.0 l.1)))

-- the empty stack alone
pub holds_empty : (within : Stack → Type 0) → ((x : Stack) → within x → x ≡ []) → Holds no_origins within
holds_empty within only i which =
    ((λ h. absurd (none_has i which h)), (λ l. let e : None ≡ Some which = sym (ap (λ x. get_or x i None) (only l.0 l.1)) ∙ l.2 in absurd (cc)))

has_joined : (xs ys : List ParameterSet) (i which : ℕ)
    → Has (get_or (join_sets xs ys) i no_parameter) which ↔ (Has (get_or xs i no_parameter) which ⊎ Has (get_or ys i no_parameter) which)
has_joined [] bs i which = ((λ h. inr h), either)
  where
    either : Has no_parameter which ⊎ Has (get_or bs i no_parameter) which → Has (get_or bs i no_parameter) which
    either (inl h) = absurd (has_none which h)
    either (inr h) = h
has_joined (a ∷ xs) [] i which = ((λ h. inl h), either)
  where
    either : Has (get_or (a ∷ xs) i no_parameter) which ⊎ Has no_parameter which → Has (get_or (a ∷ xs) i no_parameter) which
    either (inl h) = h
    either (inr h) = absurd (has_none which h)
has_joined (a ∷ xs) (b ∷ bs) zero which = has_united a b which
has_joined (a ∷ xs) (b ∷ bs) (suc i) which = has_joined xs bs i which

-- the stacks of either
pub holds_joined : (o other : Origins) (within also : Stack → Type 0) → Holds o within → Holds other also → Holds (joined o other) (λ x. within x ⊎ also x)
holds_joined o other within also h g i which = (there, back)
  where
    there : Has (get_or (joined o other).sets i no_parameter) which → Lies (λ x. within x ⊎ also x) i which
    there a = elim ((has_joined o.sets other.sets i which).0 a) [
      | inl p ↦ let l : Lies within i which = (h i which).0 p in (l.0, inl l.1, l.2)
      | inr p ↦ let l : Lies also i which = (g i which).0 p in (l.0, inr l.1, l.2)
    ]

    back : Lies (λ x. within x ⊎ also x) i which → Has (get_or (joined o other).sets i no_parameter) which
    back (x, inl w, e) = (has_joined o.sets other.sets i which).1 (inl ((h i which).1 (x, w, e)))
    back (x, inr w, e) = (has_joined o.sets other.sets i which).1 (inr ((g i which).1 (x, w, e)))

-- ---- a token that is met

beyond : (xs : List ParameterSet) (i : ℕ) → get_or (drop 1 xs ++ no_parameter ∷ []) i no_parameter ≡ get_or xs (suc i) no_parameter
beyond [] zero = refl
beyond [] (suc i) = refl
beyond (x ∷ xs) i = along xs i
  where
    along : (ys : List ParameterSet) (j : ℕ) → get_or (ys ++ no_parameter ∷ []) j no_parameter ≡ get_or ys j no_parameter
    along [] zero = refl
    along [] (suc j) = refl
    along (y ∷ ys) zero = refl
    along (y ∷ ys) (suc j) = along ys j

under : (x : Stack) (i : ℕ) → get_or (drop 1 x) i None ≡ get_or x (suc i) None
under [] i = refl
under (s ∷ x) i = refl

abbrev pub Popped : (Stack → Type 0) → Stack → Type 0
Popped within y = (x : Stack) × within x × (y ≡ drop 1 x)

pub holds_popped : (o : Origins) (within : Stack → Type 0) → Holds o within → Holds (popped o) (Popped within)
holds_popped o within h i which = (there, back)
  where
    there : Has (get_or (popped o).sets i no_parameter) which → Lies (Popped within) i which
    there a =
        let l : Lies within (suc i) which = (h (suc i) which).0 (let P : ParameterSet → Type 0 = λ x. Has x which in subst P (beyond o.sets i) a) in
        (drop 1 l.0, (l.0, l.1, refl), under l.0 i ∙ l.2)

    back : Lies (Popped within) i which → Has (get_or (popped o).sets i no_parameter) which
    back (y, (x, w, e), at) =
        let P : ParameterSet → Type 0 = λ z. Has z which in
        subst P (sym (beyond o.sets i)) ((h (suc i) which).1 (x, w, sym (under x i) ∙ ap (λ z. get_or z i None) (sym e) ∙ at))

abbrev pub Pushed : Option ℕ → (Stack → Type 0) → Stack → Type 0
Pushed top within y = (x : Stack) × within x × (y ≡ top ∷ x)

-- some stack, and all of them have room
pub holds_pushed : (o : Origins) (set : ParameterSet) (top : Option ℕ) (within : Stack → Type 0) (some : Stack) → within some → ((x : Stack) → within x → length x < most_values)
    → ((which : ℕ) → Has set which ↔ (top ≡ Some which)) → Holds o within → Holds (pushed set o) (Pushed top within)
holds_pushed o set top within some is low on h = each
  where
    near : (i : ℕ) → (i < 31) ⊎ (31 ≤ i)
    near i = grind arith

    P : ℕ → ParameterSet → Type 0
    P which z = Has z which

    there : (i which : ℕ) → Has (get_or (take 31 o.sets) i no_parameter) which → Lies within i which
    there i which a = elim (near i) [
      | inl lt ↦ (h i which).0 (let Q : ParameterSet → Type 0 = λ z. Has z which in subst Q (get_or-take 31 o.sets i no_parameter lt) a)
      | inr ge ↦ absurd (has_none which (let Q : ParameterSet → Type 0 = λ z. Has z which in subst Q (get_or_past (take 31 o.sets) i no_parameter (short o.sets i ge)) a))
    ]
      where
        short : (xs : List ParameterSet) (i : ℕ) → 31 ≤ i → length (take 31 xs) ≤ i
        short xs i ge = omega (arith, length-take 31 xs)

    back : (i which : ℕ) → Lies within i which → Has (get_or (take 31 o.sets) i no_parameter) which
    back i which (x, w, e) = elim (near i) [
      | inl lt ↦ let Q : ParameterSet → Type 0 = λ z. Has z which in subst Q (sym (get_or-take 31 o.sets i no_parameter lt)) ((h i which).1 (x, w, e))
      | inr ge ↦ let f : None ≡ Some which = sym (get_or_past x i None (omega (arith, low x w))) ∙ e in absurd (cc)
    ]

    each : Holds (pushed set o) (Pushed top within)
    each zero which = ((λ a. (top ∷ some, (some, is, refl), (on which).0 a)), (λ l. (on which).1 (sym (ap (λ z. get_or z 0 None) l.1.2) ∙ l.2)))
    each (suc i) which = (
      (λ a. let l : Lies within i which = there i which a in (top ∷ l.0, (l.0, l.1, refl), l.2)),
      (λ l. back i which (l.1.0, l.1.1, sym (ap (λ z. get_or z (suc i) None) l.1.2) ∙ l.2)),
    )

drop_further : (n : ℕ) (x : Stack) → drop n (drop 1 x) ≡ drop (suc n) x
drop_further n x = let e : 1 + n ≡ suc n = omega arith in drop-drop n 1 x ∙ ap (λ i. drop i x) e

abbrev pub Dropped : ℕ → (Stack → Type 0) → Stack → Type 0
Dropped n within y = (x : Stack) × within x × (y ≡ drop n x)

holds_pops : (n : ℕ) (o : Origins) (within : Stack → Type 0) → Holds o within → Holds (after_pops n o) (Dropped n within)
holds_pops zero o within h = holds_same o within (Dropped zero within) (λ x. ((λ w. (x, w, refl)), (λ d. subst within (sym d.2) d.1))) h
holds_pops (suc n) o within h =
    holds_same (after_pops n (popped o)) (Dropped n (Popped within)) (Dropped (suc n) within)
    (λ y. (
      (λ d. (d.1.0, d.1.1, d.2 ∙ ap (λ x. drop n x) d.1.2 ∙ drop_further n d.1.0)),
      (λ d. (drop 1 d.0, (d.0, d.1, refl), d.2 ∙ sym (drop_further n d.0))),
    ))
    (holds_pops n (popped o) (Popped within) (holds_popped o within h))

abbrev pub Added : ℕ → Option ℕ → (Stack → Type 0) → Stack → Type 0
Added n top within y = (x : Stack) × within x × (y ≡ replicate n top ++ x)

holds_pushes : (n : ℕ) (set : ParameterSet) (top : Option ℕ) (o : Origins) (within : Stack → Type 0) (some : Stack) → n ≤ 1 → within some
    → ((x : Stack) → within x → length x + n ≤ most_values) → ((which : ℕ) → Has set which ↔ (top ≡ Some which)) → Holds o within → Holds (after_pushes n set o) (Added n top within)
holds_pushes zero set top o within some few is low on h = holds_same o within (Added zero top within) (λ x. ((λ w. (x, w, refl)), (λ d. subst within (sym d.2) d.1))) h
holds_pushes (suc zero) set top o within some few is low on h = holds_pushed o set top within some is (λ x w. omega (arith, low x w)) on h
holds_pushes (suc (suc n)) set top o within some few is low on h = absurd (omega arith)

pushes_few : (k : Token) → pushes k ≤ 1
pushes_few (Compute op) = omega arith
pushes_few _ = omega arith

-- a parameter is one of the nine
abbrev pub IsFit : Token → Type 0
IsFit (Param which) = (1 ≤ which) × (which ≤ 9)
IsFit _ = Unit {0}

named_is_source : (k : Token) → IsFit k → (which : ℕ) → Has (named_by k) which ↔ (source k ≡ Some which)
named_is_source (Param one) fit which =
    let h : Has (only one) which ↔ (one ≡ which) = has_only one which fit.0 in
    ((λ a. ap (λ x. Some x) (h.0 a)), (λ e. h.1 (cc)))
named_is_source _ fit which = ((λ a. absurd (has_none which a)), (λ e. absurd (cc)))

-- a token that is met, if some stack is there, and none grows past the limit
pub holds_token : (k : Token) (o : Origins) (within : Stack → Type 0) (some : Stack) → IsFit k → within some
    → ((x : Stack) → within x → length (next_sources x k) ≤ most_values) → Holds o within → Holds (after_token k o) (Moved next_sources within k)
holds_token k o within some fit is low h =
    holds_same (after_token k o) (Added (pushes k) (source k) (Dropped (pops k) within)) (Moved next_sources within k)
    (λ y. (
      (λ a. (a.1.0, a.1.1, a.2 ∙ ap (λ x. replicate (pushes k) (source k) ++ x) a.1.2)),
      (λ m. (drop (pops k) m.0, (m.0, m.1, refl), m.2)),
    ))
    (holds_pushes (pushes k) (named_by k) (source k) (after_pops (pops k) o) (Dropped (pops k) within) (drop (pops k) some) (pushes_few k) (some, is, refl)
    (λ y d. omega (arith, low d.0 d.1, length-append (replicate (pushes k) (source k)) (drop (pops k) d.0), length-replicate (pushes k) (source k), ap length d.2))
    (named_is_source k fit) (holds_pops (pops k) o within h))
