-- Differences that are added one after another.
use Rattle.std.proofs.Common.{◌≡◌, ◌∙◌, List, [], ◌∷◌, ◌++◌, map, inl, inr, refl, sym, ap, subst, append_assoc, arith}
use Rattle.ti_words.specs.Items.{ItemValue, SubjectValue}
use Rattle.std.proofs.lemmas.List.{append-nil, map-append}
use Rattle.std.specs.Prelude.{Result, Ok, Err, OnOk, true}
use Rattle.ti_words.specs.declared.Kind.{Kind}
use Rattle.ti_words.specs.declared.Kind.TheVariants as kinds
use Rattle.ti_words.specs.Value.{EntryValue}
use Rattle.ti_words.specs.contracts.WidthPartialEq as width_eq
use Rattle.ti_words.specs.declared.Width.{Width}
use Rattle.ti_line.specs.declared.options.Likeness.{Likeness}
use Rattle.ti_entry.specs.Items.{IsItemOf}
use Rattle.ti_listing.specs.Differences.{AreDifferences, AreSame, AreSameItems, AreTold, DifferenceValue, format_difference, IsChange, IsDifference, item_difference, names_difference, of_each_kind, subjects_of_both}
use Rattle.ti_listing.specs.Values.{difference_value}
use Rattle.ti_listing.specs.declared.difference.Difference.{Difference}
use Rattle.ti_listing.specs.inner.Differences.{Adds}

-- ---- one item

pub nothing : (P : List DifferenceValue → Type 0) (out : List DifferenceValue) → P [] → Adds P out out
nothing P out p = ([], p, sym (append-nil out))

pub change_none : {V : Type 0} (Same : V → V → Type 0) (differ : V → V → DifferenceValue) (one other : V) (out : List DifferenceValue) → Same one other → Adds (IsChange Same differ one other) out out
change_none Same differ one other out same = ([], inl (same, refl), sym (append-nil out))

-- one more is added
pub change_told : {V : Type 0} (Same : V → V → Type 0) (differ : V → V → DifferenceValue) (one other : V) (d : Difference) (old new : List Difference) → ¬ Same one other → difference_value d ≡ differ one other
    → new ≡ old ++ d ∷ [] → Adds (IsChange Same differ one other) (map difference_value old) (map difference_value new)
change_told Same differ one other d old new apart is added =
    (_, inr (apart, refl), ap (map difference_value) added ∙ map-append difference_value old (d ∷ []) ∙ ap (λ x. map difference_value old ++ x ∷ []) is)

-- the derived `==` finds formats the same that are
pub same_width : (a b : Width) → a ≡ b → (width_eq.TheImpl.eq-value).it a b ≡ true
same_width a b same = subst (λ x. (width_eq.TheImpl.eq-value).it a x ≡ true) same (itself a)
  where
    itself : (a : Width) → (width_eq.TheImpl.eq-value).it a a ≡ true
    itself a = grind arith

-- what is added of a capability is by what the entries have of it
pub difference_told : {E : Type 0} (by : Likeness) (v w : EntryValue) (subject : SubjectValue) (r : Result (Unit {0}) E) (one other : ItemValue) (out new : List DifferenceValue) → IsItemOf v subject one → IsItemOf w subject other
    → OnOk r (Adds (IsChange (AreSameItems by) (item_difference subject) one other) out new) → OnOk r (Adds (IsDifference by v w subject) out new)
difference_told by v w subject (Err e) one other out new of_one of_other h = tt
difference_told by v w subject (Ok u) one other out new of_one of_other (told, change, added) = (told, (one, other, of_one, of_other, change), added)

-- ---- capabilities one after another

module _ (P : SubjectValue → List DifferenceValue → Type 0) where
  told_both : (xs ys : List SubjectValue) (a b : List DifferenceValue) → AreTold P xs a → AreTold P ys b → AreTold P (xs ++ ys) (a ++ b)
  told_both [] ys a b none more = subst (AreTold P ys) (ap (λ l. l ++ b) (sym none)) more
  told_both (x ∷ xs) ys a b (first, last, one, are, is) more =
      (first, last ++ b, one, told_both xs ys last b are more, ap (λ l. l ++ b) is ∙ append_assoc first last b)

  pub adds_none : (out : List DifferenceValue) → Adds (AreTold P []) out out
  adds_none out = nothing (AreTold P []) out refl

  pub adds_both : (xs ys : List SubjectValue) (a b c : List DifferenceValue) → Adds (AreTold P xs) a b → Adds (AreTold P ys) b c → Adds (AreTold P (xs ++ ys)) a c
  adds_both xs ys a b c (one, are, is) (two, more, then) = (one ++ two, told_both xs ys one two are more, then ∙ ap (λ l. l ++ two) is ∙ append_assoc a one two)

  pub adds_next : (xs ys : List SubjectValue) (x : SubjectValue) (a b c : List DifferenceValue) → ys ≡ xs ++ x ∷ [] → Adds (AreTold P xs) a b → Adds (P x) b c → Adds (AreTold P ys) a c
  adds_next xs ys x a b c is before (told, one, added) =
      let last : Adds (AreTold P (x ∷ [])) b c = (told, (told, [], one, refl, sym (append-nil told)), added) in
      let Told : List SubjectValue → Type 0 = λ zs. Adds (AreTold P zs) a c in
      subst Told (sym is) (adds_both xs (x ∷ []) a b c before last)

  pub adds_kinds : (of_kind : Kind → List SubjectValue) (a b c d : List DifferenceValue) → Adds (AreTold P (of_kind kinds.Flag)) a b → Adds (AreTold P (of_kind kinds.Number)) b c
      → Adds (AreTold P (of_kind kinds.Text)) c d → Adds (AreTold P (of_each_kind of_kind)) a d
  adds_kinds of_kind a b c d flags numbers texts =
      adds_both (of_kind kinds.Flag ++ of_kind kinds.Number) (of_kind kinds.Text) a c d (adds_both (of_kind kinds.Flag) (of_kind kinds.Number) a b c flags numbers) texts

-- ---- a whole entry

pub differences : (by : Likeness) (v w : EntryValue) (a b c d : List DifferenceValue) → a ≡ [] → Adds (IsChange AreSame format_difference v.width w.width) a b → Adds (IsChange AreSame names_difference v.names w.names) b c
    → Adds (AreTold (IsDifference by v w) (subjects_of_both v w)) c d → AreDifferences by v w d
differences by v w a b c d none (x, p, f) (y, q, g) (z, r, h) = record {
  format = x;
  names = y;
  capabilities = z;
  in_format = p;
  in_names = q;
  in_capabilities = r;
  joined = h ∙ ap (λ l. l ++ z) (g ∙ ap (λ l. l ++ y) (f ∙ ap (λ l. l ++ x) none));
}
