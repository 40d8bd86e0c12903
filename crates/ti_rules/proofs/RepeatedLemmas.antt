-- The texts that were seen.
use Rattle.std.proofs.Common.{◌≡◌, ◌≢◌, ℕ, ◌⊎◌, inl, inr, ◌↔◌, List, [], ◌∷◌, ◌++◌, refl, sym, ◌∙◌, ap, subst, arith, true, false, ◌||◌, Contains, Bor, Ordering, Less, Equal, Greater, is_eq, nat_cmp}
use Rattle.std.specs.List.{list_any}
use Rattle.std.specs.BTreeSet.{insert_key}
use Rattle.std.specs.Ordering.{match_ordering}
use Rattle.std.specs.Cmp.Lexicographic.{slice_cmp, texts_ties, bytes_decides}
use Rattle.ti_lint.proofs.FactsLemmas.{either_true, contains-cons, contains-snoc}
use Rattle.ti_rules.specs.inner.Lent.{texts_lent}

abbrev Text : Type 0
Text = List ℕ

abbrev pub order_at : Bor Text → Bor Text → Ordering
order_at x y = slice_cmp nat_cmp x.now y.now

equal_is : (x y : Text) → (is_eq (slice_cmp nat_cmp x y) ≡ true) ↔ (x ≡ y)
equal_is x y = ((λ e. (bytes_decides x y).0 (texts_ties x y ∙ e)), (λ e. sym (texts_ties x y) ∙ (bytes_decides x y).1 e))

-- a key is found exactly if its bytes are there
found_more : (k x : Bor Text) (ks : List (Bor Text)) → (list_any (λ y. is_eq (order_at k y)) ks ≡ true) ↔ Contains (texts_lent ks) k.now
    → (is_eq (order_at k x) || list_any (λ y. is_eq (order_at k y)) ks ≡ true) ↔ Contains (x.now ∷ texts_lent ks) k.now
found_more k x ks old = (there, back)
  where
    both : (is_eq (order_at k x) || list_any (λ y. is_eq (order_at k y)) ks ≡ true) ↔ ((is_eq (order_at k x) ≡ true) ⊎ (list_any (λ y. is_eq (order_at k y)) ks ≡ true))
    both = either_true (is_eq (order_at k x)) (list_any (λ y. is_eq (order_at k y)) ks)

    there : is_eq (order_at k x) || list_any (λ y. is_eq (order_at k y)) ks ≡ true → Contains (x.now ∷ texts_lent ks) k.now
    there e = (contains-cons x.now (texts_lent ks) k.now).1 (elim (both.0 e) [ inl a ↦ inr (sym ((equal_is k.now x.now).0 a)) | inr a ↦ inl (old.0 a) ])

    back : Contains (x.now ∷ texts_lent ks) k.now → is_eq (order_at k x) || list_any (λ y. is_eq (order_at k y)) ks ≡ true
    back c = both.1 (elim ((contains-cons x.now (texts_lent ks) k.now).0 c) [ inl a ↦ inr (old.1 a) | inr a ↦ inl ((equal_is k.now x.now).1 (sym a)) ])

pub found_is : (k : Bor Text) (ks : List (Bor Text)) → (list_any (λ x. is_eq (order_at k x)) ks ≡ true) ↔ Contains (texts_lent ks) k.now
found_is k [] = ((λ e. absurd (cc)), (λ c. absurd (omega (arith, c.1))))
found_is k (x ∷ ks) = found_more k x ks (found_is k ks)

-- with a key more, if its bytes are not there
insert_more : (k x : Bor Text) (ks : List (Bor Text)) (t : Text) (o : Ordering) → order_at k x ≡ o
    → Contains (texts_lent (insert_key order_at ks k)) t ↔ (Contains (texts_lent ks) t ⊎ (k.now ≡ t))
    → Contains (texts_lent (match_ordering o (k ∷ (x ∷ ks)) (x ∷ ks) (x ∷ insert_key order_at ks k))) t ↔ (Contains (x.now ∷ texts_lent ks) t ⊎ (k.now ≡ t))
insert_more k x ks t Less is old = contains-cons k.now (x.now ∷ texts_lent ks) t
insert_more k x ks t Equal is old = ((λ c. inl c), other)
  where
    same : k.now ≡ x.now
    same = (equal_is k.now x.now).0 (ap is_eq is)

    other : Contains (x.now ∷ texts_lent ks) t ⊎ (k.now ≡ t) → Contains (x.now ∷ texts_lent ks) t
    other (inl c) = c
    other (inr e) = (contains-cons x.now (texts_lent ks) t).1 (inr (sym same ∙ e))
insert_more k x ks t Greater is old = (there, back)
  where
    there : Contains (x.now ∷ texts_lent (insert_key order_at ks k)) t → Contains (x.now ∷ texts_lent ks) t ⊎ (k.now ≡ t)
    there c = elim ((contains-cons x.now (texts_lent (insert_key order_at ks k)) t).0 c) [
      | inl later ↦ elim (old.0 later) [ inl a ↦ inl ((contains-cons x.now (texts_lent ks) t).1 (inl a)) | inr e ↦ inr e ]
      | inr e ↦ inl ((contains-cons x.now (texts_lent ks) t).1 (inr e))
    ]

    back : Contains (x.now ∷ texts_lent ks) t ⊎ (k.now ≡ t) → Contains (x.now ∷ texts_lent (insert_key order_at ks k)) t
    back (inl c) = (contains-cons x.now (texts_lent (insert_key order_at ks k)) t).1 (elim ((contains-cons x.now (texts_lent ks) t).0 c) [ inl later ↦ inl (old.1 (inl later)) | inr e ↦ inr e ])
    back (inr e) = (contains-cons x.now (texts_lent (insert_key order_at ks k)) t).1 (inl (old.1 (inr e)))

pub insert_is : (k : Bor Text) (ks : List (Bor Text)) (t : Text) → Contains (texts_lent (insert_key order_at ks k)) t ↔ (Contains (texts_lent ks) t ⊎ (k.now ≡ t))
insert_is k [] t = contains-cons k.now [] t
insert_is k (x ∷ ks) t = insert_more k x ks t (order_at k x) refl (insert_is k ks t)

-- those that were seen are the texts so far
abbrev pub AreSeen : List Text → List (Bor Text) → Type 0
AreSeen texts seen = (t : Text) → Contains (texts_lent seen) t ↔ Contains texts t

pub seen_next : (texts : List Text) (seen more : List (Bor Text)) (one : Bor Text) → AreSeen texts seen → more ≡ insert_key order_at seen one → AreSeen (texts ++ one.now ∷ []) more
seen_next texts seen more one s e t = (there, back)
  where
    grows : Contains (texts_lent more) t ↔ (Contains (texts_lent seen) t ⊎ (one.now ≡ t))
    grows = let Q : List (Bor Text) → Type 0 = λ z. Contains (texts_lent z) t ↔ (Contains (texts_lent seen) t ⊎ (one.now ≡ t)) in subst Q (sym e) (insert_is one seen t)

    there : Contains (texts_lent more) t → Contains (texts ++ one.now ∷ []) t
    there c = (contains-snoc texts one.now t).1 (elim (grows.0 c) [ inl a ↦ inl ((s t).0 a) | inr a ↦ inr a ])

    back : Contains (texts ++ one.now ∷ []) t → Contains (texts_lent more) t
    back c = grows.1 (elim ((contains-snoc texts one.now t).0 c) [ inl a ↦ inl ((s t).1 a) | inr a ↦ inr a ])

-- whether a text is new decides whether it stands among those so far
pub seen_before : (texts : List Text) (seen : List (Bor Text)) (one : Bor Text) → AreSeen texts seen → list_any (λ x. is_eq (order_at one x)) seen ≡ true → Contains texts one.now
seen_before texts seen one s e = (s one.now).0 ((found_is one seen).0 e)

pub not_seen_before : (texts : List Text) (seen : List (Bor Text)) (one : Bor Text) → AreSeen texts seen → list_any (λ x. is_eq (order_at one x)) seen ≡ false → ¬ Contains texts one.now
not_seen_before texts seen one s e c = absurd (differ (sym e ∙ (found_is one seen).1 ((s one.now).1 c)))
  where
    differ : false ≢ true
    differ h = cc
