-- The facts of a place, against the paths that come to it.
use Rattle.std.proofs.Common.{◌≡◌, ◌≢◌, ℕ, ◌<◌, ◌⊎◌, inl, inr, ◌↔◌, List, [], ◌∷◌, ◌++◌, refl, sym, ◌∙◌, ap, subst, arith, Contains}
use Rattle.ti_cap.specs.declared.language.Token.{Token}
use Rattle.ti_cap.specs.declared.language.Token.TheVariants.{Store, Increment}
use Rattle.std.specs.Prelude.{Option}
use Rattle.std.specs.Int.{bit_at}
use Rattle.ti_cap.specs.Height.{pops, pushes, next_height, end_height}
use Rattle.ti_cap.specs.Sources.{source, next_sources, sources}
use Rattle.ti_lint.specs.inner.Values.{mask_of}
use Rattle.ti_lint.proofs.ValuesLemmas.{IsAtPlace, IsLowMask, after_is, value_there, value_back, sources-snoc, length-sources}
use Rattle.ti_cap.proofs.ReachesLemmas.{Moved}
use Rattle.ti_lint.specs.declared.facts.Facts.{Facts}
use Rattle.ti_lint.specs.inner.Facts.{no_facts, first_facts, joined, after_token, IsLettered}
use Rattle.ti_lint.proofs.HeightsLemmas.{HasHeight, IsLow, Comes, has_after, pushes_few}
use Rattle.ti_lint.specs.Findings.{NamesFirstTwo}
use Rattle.ti_lint.proofs.FactsLemmas.{Fact, HeightIs, Incremented, Named, Unset, ValueIs, Says, Has, IsFit, has_nothing, has_joined, has_first, height-snoc, contains-snoc, IsFirstTwo, names_longer, has_first_two, has_increment, has_store}

abbrev pub Path : Type 0
Path = List Token

-- a path with a token more
abbrev pub snoc : Path → Token → Path
snoc path k = path ++ k ∷ []

-- the fact is true of a path of the set
abbrev pub IsTold : (Path → Type 0) → Fact → Type 0
IsTold within fact = (path : Path) × within path × Says fact path

-- the facts are exactly those of the paths of a set
abbrev pub Holds : Facts → (Path → Type 0) → Type 0
Holds f within = (fact : Fact) → IsFit fact → Has f fact ↔ IsTold within fact

pub holds_same : (f : Facts) (old new : Path → Type 0) → ((x : Path) → old x ↔ new x) → Holds f old → Holds f new
holds_same f old new same h fact fit =
    ((λ a. let t : IsTold old fact = (h fact fit).0 a in (t.0, (same t.0).0 t.1, t.2)), (λ t. (h fact fit).1 (t.0, (same t.0).1 t.1, t.2)))

pub holds_nothing : (within : Path → Type 0) → ((x : Path) → ¬ within x) → Holds no_facts within
holds_nothing within none fact fit = ((λ a. absurd (has_nothing fact fit a)), (λ t. absurd (none t.0 t.1)))

pub holds_first : (within : Path → Type 0) → within [] → ((x : Path) → within x → x ≡ []) → Holds first_facts within
holds_first within is only fact fit =
    ((λ a. ([], is, (has_first fact).0 a)), (λ t. let P : Path → Type 0 = λ x. Says fact x in (has_first fact).1 (subst P (only t.0 t.1) t.2)))

pub holds_joined : (f other : Facts) (within also : Path → Type 0) → Holds f within → Holds other also → Holds (joined f other) (λ x. within x ⊎ also x)
holds_joined f other within also h g fact fit = (there, back)
  where
    there : Has (joined f other) fact → IsTold (λ x. within x ⊎ also x) fact
    there a = elim ((has_joined f other fact).0 a) [
      | inl p ↦ let t : IsTold within fact = (h fact fit).0 p in (t.0, inl t.1, t.2)
      | inr p ↦ let t : IsTold also fact = (g fact fit).0 p in (t.0, inr t.1, t.2)
    ]

    back : IsTold (λ x. within x ⊎ also x) fact → Has (joined f other) fact
    back (x, inl w, e) = (has_joined f other fact).1 (inl ((h fact fit).1 (x, w, e)))
    back (x, inr w, e) = (has_joined f other fact).1 (inr ((g fact fit).1 (x, w, e)))

-- ---- a token that is met

-- no path of the set is high
abbrev pub AreLow : (Path → Type 0) → Type 0
AreLow within = (x : Path) → within x → end_height 0 x < 63

low_heights : (f : Facts) (within : Path → Type 0) → AreLow within → Holds f within → IsLow f.heights
low_heights f within low h x a = let t : IsTold within (HeightIs x) = (h (HeightIs x) tt).0 a in omega (arith, low t.0 t.1, t.2)

names-snoc : (path : Path) (k : Token) → NamesFirstTwo (snoc path k) ↔ (NamesFirstTwo path ⊎ IsFirstTwo k)
names-snoc path k = names_longer k path (snoc path k) (contains-snoc path k)

pub holds_token : (k : Token) (f : Facts) (within : Path → Type 0) (some : Path) → IsLettered k → within some → AreLow within → Holds f within
    → Holds (after_token k f) (Moved snoc within k)
holds_token k f within some fit is low h = each
  where
    each : Holds (after_token k f) (Moved snoc within k)
    each (HeightIs x) at = (there, back)
      where
        after : HasHeight (after_token k f).heights x ↔ Comes (λ old. next_height old k) f.heights x
        after = has_after k f.heights x (low_heights f within low h)

        there : HasHeight (after_token k f).heights x → IsTold (Moved snoc within k) (HeightIs x)
        there a =
            let c : Comes (λ old. next_height old k) f.heights x = after.0 a in
            let t : IsTold within (HeightIs c.0) = (h (HeightIs c.0) tt).0 c.1 in
            (snoc t.0 k, (t.0, t.1, refl), height-snoc 0 t.0 k ∙ ap (λ y. next_height y k) t.2 ∙ sym c.2)

        back : IsTold (Moved snoc within k) (HeightIs x) → HasHeight (after_token k f).heights x
        back (new, (old, w, e), s) =
            after.1 (end_height 0 old, (h (HeightIs (end_height 0 old)) tt).1 (old, w, refl), sym s ∙ ap (λ y. end_height 0 y) e ∙ height-snoc 0 old k)
    each Incremented at = (there, back)
      where
        there : Has (after_token k f) Incremented → IsTold (Moved snoc within k) Incremented
        there a = elim ((has_increment k f.incremented).0 a) [
          | inl old ↦ let t : IsTold within Incremented = (h Incremented tt).0 old in (snoc t.0 k, (t.0, t.1, refl), (contains-snoc t.0 k Increment).1 (inl t.2))
          | inr e ↦ (snoc some k, (some, is, refl), (contains-snoc some k Increment).1 (inr e))
        ]

        back : IsTold (Moved snoc within k) Incremented → Has (after_token k f) Incremented
        back (new, (old, w, e), s) =
            let P : Path → Type 0 = λ y. Contains y Increment in
            (has_increment k f.incremented).1 (elim ((contains-snoc old k Increment).0 (subst P e s)) [
              | inl c ↦ inl ((h Incremented tt).1 (old, w, c))
              | inr i ↦ inr i
            ])
    each Named at = (there, back)
      where
        there : Has (after_token k f) Named → IsTold (Moved snoc within k) Named
        there a = elim ((has_first_two k f.named_first_two).0 a) [
          | inl old ↦ let t : IsTold within Named = (h Named tt).0 old in (snoc t.0 k, (t.0, t.1, refl), (names-snoc t.0 k).1 (inl t.2))
          | inr e ↦ (snoc some k, (some, is, refl), (names-snoc some k).1 (inr e))
        ]

        back : IsTold (Moved snoc within k) Named → Has (after_token k f) Named
        back (new, (old, w, e), s) =
            (has_first_two k f.named_first_two).1 (elim ((names-snoc old k).0 (subst NamesFirstTwo e s)) [
              | inl c ↦ inl ((h Named tt).1 (old, w, c))
              | inr i ↦ inr i
            ])
    each (Unset which) at = (there, back)
      where
        there : Has (after_token k f) (Unset which) → IsTold (Moved snoc within k) (Unset which)
        there a =
            let s = (has_store k f.stored which fit at.0).0 a in
            let t : IsTold within (Unset which) = (h (Unset which) at).0 s.0 in
            (snoc t.0 k, (t.0, t.1, refl), (λ c. elim ((contains-snoc t.0 k (Store which)).0 c) [ inl old ↦ t.2 old | inr e ↦ s.1 e ]))

        back : IsTold (Moved snoc within k) (Unset which) → Has (after_token k f) (Unset which)
        back (new, (old, w, e), s) =
            let P : Path → Type 0 = λ y. ¬ Contains y (Store which) in
            let n : ¬ Contains (snoc old k) (Store which) = subst P e s in
            (has_store k f.stored which fit at.0).1 (
              (h (Unset which) at).1 (old, w, (λ c. n ((contains-snoc old k (Store which)).1 (inl c)))),
              (λ i. n ((contains-snoc old k (Store which)).1 (inr i))),
            )
    each (ValueIs place one) at = (there, back)
      where
        mask : ℕ
        mask = mask_of one f.values

        low_mask : IsLowMask mask
        low_mask j a =
            let t : IsTold within (ValueIs j one) = (h (ValueIs j one) tt).0 a in
            omega (arith, low t.0 t.1, length-sources [] t.0, t.2.0)

        along : (path : Path) → IsAtPlace (next_sources (sources path) k) place one → IsAtPlace (sources (snoc path k)) place one
        along path a = let P : List (Option ℕ) → Type 0 = λ x. IsAtPlace x place one in subst P (sym (sources-snoc [] path k)) a

        there : Has (after_token k f) (ValueIs place one) → IsTold (Moved snoc within k) (ValueIs place one)
        there a = elim (value_there (pushes k) (pops k) (source k) mask one place (pushes_few k) low_mask (sym (ap (λ x. bit_at x place) (after_is k f.values one)) ∙ a)) [
          | inl new ↦ (snoc some k, (some, is, refl), along some (new (sources some)))
          | inr (j, old, goes) ↦ let t : IsTold within (ValueIs j one) = (h (ValueIs j one) tt).0 old in (snoc t.0 k, (t.0, t.1, refl), along t.0 (goes (sources t.0) t.2))
        ]

        back : IsTold (Moved snoc within k) (ValueIs place one) → Has (after_token k f) (ValueIs place one)
        back (new, (old, w, e), s) =
            let P : Path → Type 0 = λ y. IsAtPlace (sources y) place one in
            let Q : List (Option ℕ) → Type 0 = λ x. IsAtPlace x place one in
            ap (λ x. bit_at x place) (after_is k f.values one)
            ∙ value_back (pushes k) (pops k) (source k) mask one place (sources old) (pushes_few k) low_mask (subst Q (sources-snoc [] old k) (subst P e s)) (λ j a. (h (ValueIs j one) tt).1 (old, w, a))

-- ---- a token that changes no fact

abbrev pub IsStill : Token → Type 0
IsStill k = ((h : ℕ) → next_height h k ≡ h) × (k ≢ Increment) × ((which : ℕ) → k ≢ Store which) × (¬ IsFirstTwo k) × ((stack : List (Option ℕ)) → next_sources stack k ≡ stack)

still_says : (k : Token) (fact : Fact) (path : Path) → IsStill k → Says fact path ↔ Says fact (snoc path k)
still_says k (HeightIs h) path still =
    let e : end_height 0 (snoc path k) ≡ end_height 0 path = height-snoc 0 path k ∙ still.0 (end_height 0 path) in
    ((λ s. e ∙ s), (λ s. sym e ∙ s))
still_says k Incremented path still = ((λ c. (contains-snoc path k Increment).1 (inl c)), back)
  where
    back : Contains (snoc path k) Increment → Contains path Increment
    back c = elim ((contains-snoc path k Increment).0 c) [ inl old ↦ old | inr e ↦ absurd (still.1 e) ]
still_says k Named path still = ((λ c. (names-snoc path k).1 (inl c)), back)
  where
    back : NamesFirstTwo (snoc path k) → NamesFirstTwo path
    back c = elim ((names-snoc path k).0 c) [ inl old ↦ old | inr e ↦ absurd (still.3 e) ]
still_says k (Unset which) path still = (there, (λ n c. n ((contains-snoc path k (Store which)).1 (inl c))))
  where
    there : ¬ Contains path (Store which) → ¬ Contains (snoc path k) (Store which)
    there n c = elim ((contains-snoc path k (Store which)).0 c) [ inl old ↦ n old | inr e ↦ still.2 which e ]
still_says k (ValueIs place one) path still =
    let e : sources (snoc path k) ≡ sources path = sources-snoc [] path k ∙ still.4 (sources path) in
    let P : List (Option ℕ) → Type 0 = λ x. IsAtPlace x place one in
    ((λ a. subst P (sym e) a), (λ a. subst P e a))

pub holds_still : (k : Token) (f : Facts) (within : Path → Type 0) → IsStill k → Holds f within → Holds f (Moved snoc within k)
holds_still k f within still h fact fit = (there, back)
  where
    there : Has f fact → IsTold (Moved snoc within k) fact
    there a = let t : IsTold within fact = (h fact fit).0 a in (snoc t.0 k, (t.0, t.1, refl), (still_says k fact t.0 still).0 t.2)

    back : IsTold (Moved snoc within k) fact → Has f fact
    back (new, (old, w, e), s) = let P : Path → Type 0 = λ y. Says fact y in (h fact fit).1 (old, w, (still_says k fact old still).1 (subst P e s))
