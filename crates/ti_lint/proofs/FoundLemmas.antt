-- What a pass tells of a token is what holds of it on some path.
use Rattle.std.proofs.Common.{◌≡◌, ◌≢◌, ℕ, zero, suc, ◌-◌, ◌<◌, ◌≤◌, ◌⊎◌, inl, inr, ◌↔◌, List, refl, sym, ◌∙◌, ap, subst, arith, Bool, true, false, not, ◌||◌, ◌&&◌, nat_eq, nat_le, nat_lt, IsTrue, Contains}
use Rattle.std.specs.Prelude.{Option, Some, None}
use Rattle.std.proofs.Common.{get_or, if◌then◌else◌}
use Rattle.std.specs.Int.{bit_at}
use Rattle.std.proofs.lemmas.Nat.Bits.{bit_at-lt, bit_at-zero, same_from_bits}
use Rattle.ti_cap.specs.declared.language.Token.{Token}
use Rattle.ti_cap.specs.declared.language.Token.TheVariants.{Param, Load, Store, Increment}
use Rattle.ti_cap.specs.declared.parameter_set.ParameterSet.{ParameterSet}
use Rattle.ti_cap.specs.Height.{pops, end_height}
use Rattle.ti_cap.specs.Sources.{Has as HasParameter, IsNamed, sources, takes_text}
use Rattle.ti_cap.specs.Capability.{Spot, whole}
use Rattle.ti_lint.specs.declared.heights.Heights.{Heights}
use Rattle.ti_lint.specs.declared.pass.Pass.{Pass}
use Rattle.ti_lint.specs.declared.expected.Expected.{Expected}
use Rattle.ti_lint.specs.declared.expected.TextParameters.{TextParameters}
use Rattle.ti_lint.specs.declared.values.Source.{Source}
use Rattle.ti_lint.specs.declared.values.Source.TheVariants.{First, Second, Third, Other}
use Rattle.ti_lint.specs.declared.values.Values.{Values}
use Rattle.ti_lint.specs.inner.Values.{source_of}
use Rattle.ti_lint.specs.declared.token_finding.TokenFinding.{TokenFinding}
use Rattle.ti_lint.specs.declared.token_finding.TokenFinding.TheVariants.{StackUnderflow, TermcapParameter, ParameterRange, RepeatedIncrement, UnsetVariable, OperandType}
use Rattle.ti_lint.specs.Findings.{IsMetAfter, Underflows, NamesNone, IsOutOfRange, IsRepeated, IsStoredElsewhere, IsUnset, is_text_value, HasKindAt, TakesOtherKind, IsFoundBefore}
use Rattle.ti_lint.specs.inner.Facts.{has_bit, is_any_below, lacks, place_of, found_if, is_kept, is_unset, underflow, agrees, has_kind, is_other_below, of_pops, judgement}
use Rattle.ti_lint.proofs.HeightsLemmas.{HasHeight}
use Rattle.ti_lint.proofs.FactsLemmas.{HeightIs, Incremented, Unset, ValueIs}
use Rattle.ti_lint.proofs.ValuesLemmas.{HasValue}
use Rattle.ti_lint.proofs.PassLemmas.{chain}
use Rattle.ti_lint.proofs.OnSomePathLemmas.{Before, IsPart, Comes, some_before}

-- ---- tests

pub bit_is : (mask place : ℕ) → (has_bit mask place ≡ true) ↔ (bit_at mask place ≡ 1)
bit_is mask place = ((λ e. grind arith), (λ e. ap (λ x. nat_eq x 1) e))

pub bit_is_not : (mask place : ℕ) → (has_bit mask place ≡ false) ↔ (bit_at mask place ≡ 0)
bit_is_not mask place = (there (bit_at mask place) (bit_at-lt mask place), (λ e. ap (λ x. nat_eq x 1) e))
  where
    there : (x : ℕ) → x < 2 → nat_eq x 1 ≡ false → x ≡ 0
    there zero low e = refl
    there (suc zero) low e = absurd (cc)
    there (suc (suc x)) low e = absurd (omega arith)

either_is : (a b : Bool) → (a || b ≡ true) ↔ ((a ≡ true) ⊎ (b ≡ true))
either_is true b = ((λ e. inl refl), (λ e. refl))
either_is false b = ((λ e. inr e), other)
  where
    other : (false ≡ true) ⊎ (b ≡ true) → b ≡ true
    other (inl e) = absurd (cc)
    other (inr e) = e

pub both_are : (a b : Bool) → (a && b ≡ true) ↔ ((a ≡ true) × (b ≡ true))
both_are true b = ((λ e. (refl, e)), (λ p. p.1))
both_are false b = ((λ e. absurd (cc)), (λ p. p.0))

pub not_is : (a : Bool) → (not a ≡ true) ↔ (a ≡ false)
not_is true = ((λ e. absurd (cc)), (λ e. absurd (cc)))
not_is false = ((λ e. refl), (λ e. refl))

-- a fact that a test decides, turned round
pub not_by : {A : Type 0} (b : Bool) → (b ≡ true) ↔ A → (b ≡ false) ↔ (¬ A)
not_by {A = A} true p = ((λ e. absurd (cc)), (λ n. absurd (n (p.0 refl))))
not_by {A = A} false p = ((λ e a. absurd (differ (p.1 a))), (λ n. refl))
  where
    differ : false ≡ true → ⊥
    differ e = absurd (cc)

pub found_is : (b : Bool) (f g : TokenFinding) → (found_if b f ≡ Some g) ↔ ((b ≡ true) × (f ≡ g))
found_is true f g = ((λ e. (refl, cc)), (λ p. ap (λ x. Some x) p.1))
found_is false f g = ((λ e. absurd (cc)), (λ p. absurd (cc (p.0))))

any_below : (n : ℕ) (set : Heights) → (is_any_below n set ≡ true) ↔ ((h : ℕ) × (h < n) × HasHeight set h)
any_below zero set = ((λ e. absurd (cc)), (λ p. absurd (omega (arith, p.1))))
any_below (suc n) set = along n set (any_below n set)
  where
    along : (n : ℕ) (set : Heights) → (is_any_below n set ≡ true) ↔ ((h : ℕ) × (h < n) × HasHeight set h)
        → (is_any_below n set || has_bit set.mask n ≡ true) ↔ ((h : ℕ) × (h < suc n) × HasHeight set h)
    along n set old = (there, back)
      where
        there : is_any_below n set || has_bit set.mask n ≡ true → (h : ℕ) × (h < suc n) × HasHeight set h
        there e = elim ((either_is (is_any_below n set) (has_bit set.mask n)).0 e) [
          | inl a ↦ let p : (h : ℕ) × (h < n) × HasHeight set h = old.0 a in (p.0, omega (arith, p.1), p.2)
          | inr a ↦ (n, omega arith, (bit_is set.mask n).0 a)
        ]

        near : (h m : ℕ) → h < suc m → (h < m) ⊎ (h ≡ m)
        near h m lt = grind arith

        back : (h : ℕ) × (h < suc n) × HasHeight set h → is_any_below n set || has_bit set.mask n ≡ true
        back (h, lt, a) = (either_is (is_any_below n set) (has_bit set.mask n)).1 (elim (near h n lt) [
          | inl less ↦ inl (old.1 (h, less, a))
          | inr e ↦ let P : ℕ → Type 0 = λ x. HasHeight set x in inr ((bit_is set.mask n).1 (subst P e a))
        ])

-- ---- findings, by the paths that come to the place

none_popped : (spot : Spot) (k : Token) → pops k ≡ 0 → ¬ Underflows spot k
none_popped spot k e o = omega (arith, o.so, e)

lacks_is : (spot : Spot) (k : Token) (p : Pass) → Before spot k p → (lacks k p.here.heights ≡ true) ↔ Underflows spot k
lacks_is spot k p b = elim (near (pops k)) [ inl e ↦ never e | inr some ↦ sometimes some ]
  where
    near : (n : ℕ) → (n ≡ 0) ⊎ (0 < n)
    near n = grind arith

    none : pops k ≡ 0 → lacks k p.here.heights ≡ true → ⊥
    none e a = let f : is_any_below 0 p.here.heights ≡ true = ap (λ n. is_any_below n p.here.heights) (sym e) ∙ a in absurd (cc)

    never : pops k ≡ 0 → (lacks k p.here.heights ≡ true) ↔ Underflows spot k
    never e = ((λ a. absurd (none e a)), (λ u. absurd (none_popped spot k e u)))

    sometimes : 0 < pops k → (lacks k p.here.heights ≡ true) ↔ Underflows spot k
    sometimes some = chain (any_below (pops k) p.here.heights) (chain (there, back) (some_before spot p k (λ path. end_height 0 path < pops k) b no_part))
      where
        no_part : ¬ IsPart k
        no_part (inl e) = let f : pops k ≡ 0 = ap pops e in omega arith
        no_part (inr e) = let f : pops k ≡ 0 = ap pops e in omega arith

        there : (h : ℕ) × (h < pops k) × HasHeight p.here.heights h → Comes b.stands.before (λ path. end_height 0 path < pops k)
        there (h, lt, a) =
            let t = (b.stands.knows.running (HeightIs h) tt).0 a in
            (t.0, t.1, omega (arith, t.2))

        back : Comes b.stands.before (λ path. end_height 0 path < pops k) → (h : ℕ) × (h < pops k) × HasHeight p.here.heights h
        back (path, r, lt) = (end_height 0 path, lt, (b.stands.knows.running (HeightIs (end_height 0 path)) tt).1 (path, r, refl))

repeats_is : (spot : Spot) (p : Pass) → Before spot Increment p → (p.here.incremented ≡ true) ↔ IsRepeated spot Increment
repeats_is spot p b = chain (b.stands.knows.running Incremented tt) (chain (some_before spot p Increment (λ path. Contains path Increment) b no_part) ((λ o. (refl, o)), (λ r. r.1)))
  where
    no_part : ¬ IsPart Increment
    no_part (inl e) = absurd (cc)
    no_part (inr e) = absurd (cc)

kept_is : (expected : Expected) (which : ℕ) → (65 ≤ which) × (which ≤ 122) → (is_kept expected which ≡ true) ↔ IsStoredElsewhere expected which
kept_is expected which fit = (there, back)
  where
    there : is_kept expected which ≡ true → IsStoredElsewhere expected which
    there e =
        let t = (both_are (nat_le which 90) (has_bit expected.stored.mask (place_of which))).0 e in
        let low : which ≤ 90 = grind arith in
        (low, (inl (fit.0, low), (bit_is expected.stored.mask (place_of which)).0 t.1))

    back : IsStoredElsewhere expected which → is_kept expected which ≡ true
    back (low, has) =
        (both_are (nat_le which 90) (has_bit expected.stored.mask (place_of which))).1 (grind arith, (bit_is expected.stored.mask (place_of which)).1 has.1)

unset_is : (spot : Spot) (expected : Expected) (which : ℕ) (p : Pass) → Before spot (Load which) p → (is_unset expected which p.here ≡ true) ↔ IsUnset expected spot (Load which)
unset_is spot expected which p b = (there, back)
  where
    fact : (bit_at p.here.stored.mask (place_of which) ≡ 0) ↔ Comes b.stands.before (λ path. ¬ Contains path (Store which))
    fact = b.stands.knows.running (Unset which) b.lettered

    no_part : ¬ IsPart (Load which)
    no_part (inl e) = absurd (cc)
    no_part (inr e) = absurd (cc)

    on : Comes b.stands.before (λ path. ¬ Contains path (Store which)) ↔ IsMetAfter spot (Load which) (λ path. ¬ Contains path (Store which))
    on = some_before spot p (Load which) (λ path. ¬ Contains path (Store which)) b no_part

    kept : (is_kept expected which ≡ false) ↔ (¬ IsStoredElsewhere expected which)
    kept = not_by (is_kept expected which) (kept_is expected which b.lettered)

    stored : (has_bit p.here.stored.mask (place_of which) ≡ false) ↔ (bit_at p.here.stored.mask (place_of which) ≡ 0)
    stored = bit_is_not p.here.stored.mask (place_of which)

    parts : (is_unset expected which p.here ≡ true) ↔ ((not (has_bit p.here.stored.mask (place_of which)) ≡ true) × (not (is_kept expected which) ≡ true))
    parts = both_are (not (has_bit p.here.stored.mask (place_of which))) (not (is_kept expected which))

    there : is_unset expected which p.here ≡ true → IsUnset expected spot (Load which)
    there e =
        let t = parts.0 e in
        (which, refl, kept.0 ((not_is (is_kept expected which)).0 t.1), on.0 (fact.0 (stored.0 ((not_is (has_bit p.here.stored.mask (place_of which))).0 t.0))))

    same : (other : ℕ) → Load which ≡ Load other → other ≡ which
    same other e = cc

    back : IsUnset expected spot (Load which) → is_unset expected which p.here ≡ true
    back (other, is, elsewhere, o) =
        let e : other ≡ which = same other is in
        let P : ℕ → Type 0 = λ x. ¬ IsStoredElsewhere expected x in
        let Q : ℕ → Type 0 = λ x. IsMetAfter spot (Load which) (λ path. ¬ Contains path (Store x)) in
        parts.1 (
          (not_is (has_bit p.here.stored.mask (place_of which))).1 (stored.1 (fact.1 (on.1 (subst Q e o)))),
          (not_is (is_kept expected which)).1 (kept.1 (subst P e elsewhere)),
        )

range_is : (expected : Expected) (which : ℕ) → (nat_lt expected.parameters which ≡ true) ↔ IsOutOfRange expected (Param which)
range_is expected which = (there, back)
  where
    there : nat_lt expected.parameters which ≡ true → IsOutOfRange expected (Param which)
    there e = (which, refl, grind arith)

    same : (other : ℕ) → Param which ≡ Param other → which ≡ other
    same other e = cc

    back : IsOutOfRange expected (Param which) → nat_lt expected.parameters which ≡ true
    back (other, is, lt) = let e : which ≡ other = same other is in grind arith

-- ---- the kinds of values

kind_of : TextParameters → Source → Bool
kind_of texts First = texts.first
kind_of texts Second = texts.second
kind_of texts Third = texts.third
kind_of texts Other = false

text_is : (texts : TextParameters) (o : Option ℕ) → is_text_value texts o ≡ kind_of texts (source_of o)
unfolding kind_of
text_is texts None = refl
text_is texts (Some which) = by (nat_eq which 1) (nat_eq which 2) (nat_eq which 3)
  where
    by : (a b c : Bool)
        → (if a then texts.first else (if b then texts.second else (if c then texts.third else false)))
        ≡ kind_of texts (if a then First else (if b then Second else (if c then Third else Other)))
    by true b c = refl
    by false true c = refl
    by false false true = refl
    by false false false = refl

agrees_is : (wanted is_text : Bool) → (agrees wanted is_text ≡ true) ↔ (is_text ≡ wanted)
agrees_is true true = ((λ e. refl), (λ e. refl))
agrees_is true false = ((λ e. e), (λ e. e))
agrees_is false true = ((λ e. absurd (cc)), (λ e. absurd (cc)))
agrees_is false false = ((λ e. refl), (λ e. refl))

-- one of four tests
kind_there : (texts : TextParameters) (wanted : Bool) (v : Values) (place : ℕ) → has_kind texts wanted v place ≡ true → (one : Source) × (kind_of texts one ≡ wanted) × HasValue v one place
unfolding kind_of
kind_there texts wanted v place e = elim ((either_is _ _).0 e) [
  | inl f ↦ elim ((either_is _ _).0 f) [
    | inl g ↦ let t = (both_are (agrees wanted texts.first) (has_bit v.first place)).0 g in (First, (agrees_is wanted texts.first).0 t.0, (bit_is v.first place).0 t.1)
    | inr g ↦ let t = (both_are (agrees wanted texts.second) (has_bit v.second place)).0 g in (Second, (agrees_is wanted texts.second).0 t.0, (bit_is v.second place).0 t.1)
  ]
  | inr f ↦ elim ((either_is _ _).0 f) [
    | inl g ↦ let t = (both_are (agrees wanted texts.third) (has_bit v.third place)).0 g in (Third, (agrees_is wanted texts.third).0 t.0, (bit_is v.third place).0 t.1)
    | inr g ↦ let t = (both_are (not wanted) (has_bit v.other place)).0 g in (Other, sym ((not_is wanted).0 t.0), (bit_is v.other place).0 t.1)
  ]
]

kind_back : (texts : TextParameters) (wanted : Bool) (v : Values) (place : ℕ) (one : Source) → kind_of texts one ≡ wanted → HasValue v one place → has_kind texts wanted v place ≡ true
unfolding kind_of
kind_back texts wanted v place First k h =
    (either_is _ _).1 (inl ((either_is _ _).1 (inl ((both_are (agrees wanted texts.first) (has_bit v.first place)).1 ((agrees_is wanted texts.first).1 k, (bit_is v.first place).1 h)))))
kind_back texts wanted v place Second k h =
    (either_is _ _).1 (inl ((either_is _ _).1 (inr ((both_are (agrees wanted texts.second) (has_bit v.second place)).1 ((agrees_is wanted texts.second).1 k, (bit_is v.second place).1 h)))))
kind_back texts wanted v place Third k h =
    (either_is _ _).1 (inr ((either_is _ _).1 (inl ((both_are (agrees wanted texts.third) (has_bit v.third place)).1 ((agrees_is wanted texts.third).1 k, (bit_is v.third place).1 h)))))
kind_back texts wanted v place Other k h =
    (either_is _ _).1 (inr ((either_is _ _).1 (inr ((both_are (not wanted) (has_bit v.other place)).1 ((not_is wanted).1 (sym k), (bit_is v.other place).1 h)))))

-- some path has a value of the kind there
kind_met : (spot : Spot) (k : Token) (p : Pass) → Before spot k p → ¬ IsPart k → (texts : TextParameters) (wanted : Bool) (place : ℕ)
    → (has_kind texts wanted p.here.values place ≡ true) ↔ IsMetAfter spot k (HasKindAt texts wanted place)
kind_met spot k p b no_part texts wanted place = chain (there, back) (some_before spot p k (HasKindAt texts wanted place) b no_part)
  where
    there : has_kind texts wanted p.here.values place ≡ true → Comes b.stands.before (HasKindAt texts wanted place)
    there e =
        let o = kind_there texts wanted p.here.values place e in
        let t = (b.stands.knows.running (ValueIs place o.0) tt).0 o.2 in
        (t.0, t.1, (t.2.0, text_is texts (get_or (sources t.0) place None) ∙ ap (λ x. kind_of texts x) t.2.1 ∙ o.1))

    back : Comes b.stands.before (HasKindAt texts wanted place) → has_kind texts wanted p.here.values place ≡ true
    back (path, r, (less, is)) =
        let o : Option ℕ = get_or (sources path) place None in
        kind_back texts wanted p.here.values place (source_of o) (sym (text_is texts o) ∙ is) ((b.stands.knows.running (ValueIs place (source_of o)) tt).1 (path, r, (less, refl)))

other_below : (texts : TextParameters) (wanted : Bool) (v : Values) (Met : ℕ → Type 0) → ((place : ℕ) → (has_kind texts wanted v place ≡ true) ↔ Met place) → (n : ℕ)
    → (is_other_below n texts wanted v ≡ true) ↔ ((place : ℕ) × (place < n) × ¬ Met place)
other_below texts wanted v Met each zero = ((λ e. absurd (cc)), (λ t. absurd (omega (arith, t.1))))
other_below texts wanted v Met each (suc n) = along (other_below texts wanted v Met each n)
  where
    near : (i m : ℕ) → i < suc m → (i < m) ⊎ (i ≡ m)
    near i m less = grind arith

    along : (is_other_below n texts wanted v ≡ true) ↔ ((place : ℕ) × (place < n) × ¬ Met place)
        → (is_other_below n texts wanted v || not (has_kind texts wanted v n) ≡ true) ↔ ((place : ℕ) × (place < suc n) × ¬ Met place)
    along old = (there, back)
      where
        there : is_other_below n texts wanted v || not (has_kind texts wanted v n) ≡ true → (place : ℕ) × (place < suc n) × ¬ Met place
        there e = elim ((either_is (is_other_below n texts wanted v) (not (has_kind texts wanted v n))).0 e) [
          | inl a ↦ let t : (place : ℕ) × (place < n) × ¬ Met place = old.0 a in (t.0, omega (arith, t.1), t.2)
          | inr a ↦ (n, omega arith, (not_by (has_kind texts wanted v n) (each n)).0 ((not_is (has_kind texts wanted v n)).0 a))
        ]

        back : (place : ℕ) × (place < suc n) × ¬ Met place → is_other_below n texts wanted v || not (has_kind texts wanted v n) ≡ true
        back (place, less, none) = (either_is (is_other_below n texts wanted v) (not (has_kind texts wanted v n))).1 (elim (near place n less) [
          | inl low ↦ inl (old.1 (place, low, none))
          | inr e ↦ let P : ℕ → Type 0 = λ x. ¬ Met x in inr ((not_is (has_kind texts wanted v n)).1 ((not_by (has_kind texts wanted v n) (each n)).1 (subst P e none)))
        ])

other_is : (spot : Spot) (expected : Expected) (k : Token) (p : Pass) → Before spot k p → (is_other_below (pops k) expected.texts (takes_text k) p.here.values ≡ true) ↔ TakesOtherKind expected spot k
other_is spot expected k p b = elim (near (pops k)) [ inl e ↦ never e | inr some ↦ sometimes some ]
  where
    near : (n : ℕ) → (n ≡ 0) ⊎ (0 < n)
    near n = grind arith

    none : pops k ≡ 0 → is_other_below (pops k) expected.texts (takes_text k) p.here.values ≡ true → ⊥
    none e a = let f : is_other_below 0 expected.texts (takes_text k) p.here.values ≡ true = ap (λ n. is_other_below n expected.texts (takes_text k) p.here.values) (sym e) ∙ a in absurd (cc)

    never : pops k ≡ 0 → (is_other_below (pops k) expected.texts (takes_text k) p.here.values ≡ true) ↔ TakesOtherKind expected spot k
    never e = ((λ a. absurd (none e a)), (λ t. absurd (omega (arith, t.1, e))))

    sometimes : 0 < pops k → (is_other_below (pops k) expected.texts (takes_text k) p.here.values ≡ true) ↔ TakesOtherKind expected spot k
    sometimes some = other_below expected.texts (takes_text k) p.here.values (λ place. IsMetAfter spot k (HasKindAt expected.texts (takes_text k) place))
        (kind_met spot k p b no_part expected.texts (takes_text k)) (pops k)
      where
        no_part : ¬ IsPart k
        no_part (inl e) = let f : pops k ≡ 0 = ap pops e in omega arith
        no_part (inr e) = let f : pops k ≡ 0 = ap pops e in omega arith

of_pops_is : (l m : Bool) (u g : TokenFinding) → (of_pops l u m ≡ Some g) ↔ (((l ≡ true) × (u ≡ g)) ⊎ ((l ≡ false) × (m ≡ true) × (OperandType ≡ g)))
of_pops_is true m u g = ((λ e. inl (refl, cc)), back)
  where
    back : ((true ≡ true) × (u ≡ g)) ⊎ ((true ≡ false) × (m ≡ true) × (OperandType ≡ g)) → Some u ≡ Some g
    back (inl a) = ap (λ x. Some x) a.1
    back (inr a) = absurd (cc (a.0))
of_pops_is false m u g = ((λ e. let t = (found_is m OperandType g).0 e in inr (refl, t.0, t.1)), back)
  where
    back : ((false ≡ true) × (u ≡ g)) ⊎ ((false ≡ false) × (m ≡ true) × (OperandType ≡ g)) → found_if m OperandType ≡ Some g
    back (inl a) = absurd (cc (a.0))
    back (inr a) = (found_is m OperandType g).1 (a.1, a.2)

-- ---- what is reported

-- the token is none for which there is a finding of its own
abbrev IsOther : Token → Type 0
IsOther k = ((which : ℕ) → k ≢ Param which) × (k ≢ Increment) × ((which : ℕ) → k ≢ Load which)

by_pops : (spot : Spot) (expected : Expected) (termcap : Bool) (k : Token) (p : Pass) → Before spot k p → IsOther k → (IsTrue termcap ↔ NamesNone (whole spot)) → (g : TokenFinding)
    → (of_pops (lacks k p.here.heights) (underflow termcap) (is_other_below (pops k) expected.texts (takes_text k) p.here.values) ≡ Some g) ↔ IsFoundBefore (record { spot = spot; expected = expected }) k g
by_pops spot expected termcap k p b other names g = chain (of_pops_is (lacks k p.here.heights) (is_other_below (pops k) expected.texts (takes_text k) p.here.values) (underflow termcap) g) (every g)
  where
    l : (lacks k p.here.heights ≡ true) ↔ Underflows spot k
    l = lacks_is spot k p b

    absent : (t : Bool) → (underflow t ≡ StackUnderflow) ↔ (t ≡ false)
    absent true = ((λ e. absurd (cc)), (λ e. absurd (cc)))
    absent false = ((λ e. refl), (λ e. refl))

    present : (t : Bool) → (underflow t ≡ TermcapParameter) ↔ (t ≡ true)
    present true = ((λ e. refl), (λ e. refl))
    present false = ((λ e. absurd (cc)), (λ e. absurd (cc)))

    not_range : (t : Bool) → underflow t ≢ ParameterRange
    not_range true e = absurd (cc)
    not_range false e = absurd (cc)

    not_repeated : (t : Bool) → underflow t ≢ RepeatedIncrement
    not_repeated true e = absurd (cc)
    not_repeated false e = absurd (cc)

    not_unset : (t : Bool) → underflow t ≢ UnsetVariable
    not_unset true e = absurd (cc)
    not_unset false e = absurd (cc)

    n : (termcap ≡ false) ↔ (¬ NamesNone (whole spot))
    n = not_by termcap names

    each : (g : TokenFinding) → g ≢ OperandType → ((lacks k p.here.heights ≡ true) × (underflow termcap ≡ g)) ↔ IsFoundBefore (record { spot = spot; expected = expected }) k g
    each StackUnderflow unlike = ((λ a. (l.0 a.0, n.0 ((absent termcap).0 a.1))), (λ a. (l.1 a.0, (absent termcap).1 (n.1 a.1))))
    each TermcapParameter unlike = ((λ a. (l.0 a.0, names.0 ((present termcap).0 a.1))), (λ a. (l.1 a.0, (present termcap).1 (names.1 a.1))))
    each ParameterRange unlike = ((λ a. absurd (not_range termcap a.1)), (λ a. absurd (other.0 a.0 a.1)))
    each RepeatedIncrement unlike = ((λ a. absurd (not_repeated termcap a.1)), (λ a. absurd (other.1 a.0)))
    each UnsetVariable unlike = ((λ a. absurd (not_unset termcap a.1)), (λ a. absurd (other.2 a.0 a.1)))
    each OperandType unlike = absurd (unlike refl)
    each g unlike = ((λ a. absurd ((elim termcap as (λ t. underflow t ≡ g → ⊥) [ true ↦ (λ e. absurd (cc)) | false ↦ (λ e. absurd (cc)) ]) a.1)), (λ a. absurd a))

    not_operand : (t : Bool) → underflow t ≢ OperandType
    not_operand true e = absurd (cc)
    not_operand false e = absurd (cc)

    m : (is_other_below (pops k) expected.texts (takes_text k) p.here.values ≡ true) ↔ TakesOtherKind expected spot k
    m = other_is spot expected k p b

    Told : TokenFinding → Type 0
    Told g = ((lacks k p.here.heights ≡ true) × (underflow termcap ≡ g)) ⊎ ((lacks k p.here.heights ≡ false) × (is_other_below (pops k) expected.texts (takes_text k) p.here.values ≡ true) × (OperandType ≡ g))

    told : (g : TokenFinding) → g ≢ OperandType → Told g ↔ IsFoundBefore (record { spot = spot; expected = expected }) k g
    told g unlike = (there, (λ f. inl ((each g unlike).1 f)))
      where
        there : Told g → IsFoundBefore (record { spot = spot; expected = expected }) k g
        there (inl a) = (each g unlike).0 a
        there (inr a) = absurd (unlike (sym a.2))

    every : (g : TokenFinding) → Told g ↔ IsFoundBefore (record { spot = spot; expected = expected }) k g
    every OperandType = (there, (λ f. inr ((not_by (lacks k p.here.heights) l).1 f.0, m.1 f.1, refl)))
      where
        there : Told OperandType → IsFoundBefore (record { spot = spot; expected = expected }) k OperandType
        there (inl a) = absurd (not_operand termcap a.1)
        there (inr a) = ((not_by (lacks k p.here.heights) l).0 a.0, m.0 a.1)
    every g = told g (λ e. absurd (cc))

-- a token has a finding exactly if it holds
pub found_exact : (spot : Spot) (expected : Expected) (termcap : Bool) (k : Token) (p : Pass) → Before spot k p → (IsTrue termcap ↔ NamesNone (whole spot)) → (g : TokenFinding)
    → (judgement expected termcap k p.here ≡ Some g) ↔ IsFoundBefore (record { spot = spot; expected = expected }) k g
found_exact spot expected termcap (Param which) p b names g = chain (found_is (nat_lt expected.parameters which) ParameterRange g) (each g)
  where
    r : (nat_lt expected.parameters which ≡ true) ↔ IsOutOfRange expected (Param which)
    r = range_is expected which

    each : (g : TokenFinding) → ((nat_lt expected.parameters which ≡ true) × (ParameterRange ≡ g)) ↔ IsFoundBefore (record { spot = spot; expected = expected }) (Param which) g
    each StackUnderflow = ((λ a. absurd (cc (a.1))), (λ a. absurd (none_popped spot (Param which) refl a.0)))
    each TermcapParameter = ((λ a. absurd (cc (a.1))), (λ a. absurd (none_popped spot (Param which) refl a.0)))
    each ParameterRange = ((λ a. r.0 a.0), (λ a. (r.1 a, refl)))
    each RepeatedIncrement = ((λ a. absurd (cc (a.1))), (λ a. absurd (cc (a.0))))
    each UnsetVariable = ((λ a. absurd (cc (a.1))), (λ a. absurd (cc (a.1))))
    each OperandType = ((λ a. absurd (cc (a.1))), (λ a. absurd (omega (arith, a.1.1))))
    each _ = ((λ a. absurd (cc (a.1))), (λ a. absurd a))
found_exact spot expected termcap Increment p b names g = chain (found_is p.here.incremented RepeatedIncrement g) (each g)
  where
    r : (p.here.incremented ≡ true) ↔ IsRepeated spot Increment
    r = repeats_is spot p b

    each : (g : TokenFinding) → ((p.here.incremented ≡ true) × (RepeatedIncrement ≡ g)) ↔ IsFoundBefore (record { spot = spot; expected = expected }) Increment g
    each StackUnderflow = ((λ a. absurd (cc (a.1))), (λ a. absurd (none_popped spot Increment refl a.0)))
    each TermcapParameter = ((λ a. absurd (cc (a.1))), (λ a. absurd (none_popped spot Increment refl a.0)))
    each ParameterRange = ((λ a. absurd (cc (a.1))), (λ a. absurd (cc (a.1))))
    each RepeatedIncrement = ((λ a. r.0 a.0), (λ a. (r.1 a, refl)))
    each UnsetVariable = ((λ a. absurd (cc (a.1))), (λ a. absurd (cc (a.1))))
    each OperandType = ((λ a. absurd (cc (a.1))), (λ a. absurd (omega (arith, a.1.1))))
    each _ = ((λ a. absurd (cc (a.1))), (λ a. absurd a))
found_exact spot expected termcap (Load which) p b names g = chain (found_is (is_unset expected which p.here) UnsetVariable g) (each g)
  where
    r : (is_unset expected which p.here ≡ true) ↔ IsUnset expected spot (Load which)
    r = unset_is spot expected which p b

    each : (g : TokenFinding) → ((is_unset expected which p.here ≡ true) × (UnsetVariable ≡ g)) ↔ IsFoundBefore (record { spot = spot; expected = expected }) (Load which) g
    each StackUnderflow = ((λ a. absurd (cc (a.1))), (λ a. absurd (none_popped spot (Load which) refl a.0)))
    each TermcapParameter = ((λ a. absurd (cc (a.1))), (λ a. absurd (none_popped spot (Load which) refl a.0)))
    each ParameterRange = ((λ a. absurd (cc (a.1))), (λ a. absurd (cc (a.1))))
    each RepeatedIncrement = ((λ a. absurd (cc (a.1))), (λ a. absurd (cc (a.0))))
    each UnsetVariable = ((λ a. r.0 a.0), (λ a. (r.1 a, refl)))
    each OperandType = ((λ a. absurd (cc (a.1))), (λ a. absurd (omega (arith, a.1.1))))
    each _ = ((λ a. absurd (cc (a.1))), (λ a. absurd a))
found_exact spot expected termcap k p b names g = by_pops spot expected termcap k p b ((λ which e. absurd (cc)), (λ e. absurd (cc)), (λ which e. absurd (cc))) names g

-- ---- whether a capability names a parameter

pub names_none : (bytes : List ℕ) (set : ParameterSet) → ((which : ℕ) → HasParameter set which ↔ IsNamed bytes which) → IsTrue (nat_eq set.mask 0) ↔ NamesNone bytes
names_none bytes set exact = (there, back)
  where
    there : IsTrue (nat_eq set.mask 0) → NamesNone bytes
    there e which n =
        let h : HasParameter set which = (exact which).1 n in
        let z : set.mask ≡ 0 = grind arith in
        omega (arith, h.1, ap (λ x. bit_at x (which - 1)) z, bit_at-zero (which - 1))

    back : NamesNone bytes → IsTrue (nat_eq set.mask 0)
    back none = ap (λ x. nat_eq x 0) (same_from_bits set.mask 0 (λ i. zero_bit i (bit_at set.mask i) refl (bit_at-lt set.mask i) ∙ sym (bit_at-zero i)))
      where
        zero_bit : (i x : ℕ) → bit_at set.mask i ≡ x → x < 2 → bit_at set.mask i ≡ 0
        zero_bit i zero e low = e
        zero_bit i (suc zero) e low =
            let back_one : suc i - 1 ≡ i = omega arith in
            absurd (none (suc i) ((exact (suc i)).0 (omega arith, ap (λ x. bit_at set.mask x) back_one ∙ e)))
        zero_bit i (suc (suc x)) e low = absurd (omega arith)
