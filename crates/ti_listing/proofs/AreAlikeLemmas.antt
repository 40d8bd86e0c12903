-- Two entries are told apart exactly if they do not say the same, and in one way.
use Rattle.std.proofs.Common.{◌≡◌, ◌∙◌, ◌≤◌, ◌<◌, ◌⊎◌, ℕ, zero, suc, Bool, true, false, List, [], ◌∷◌, ◌++◌, map, inl, inr, refl, sym, ap, ap₂, subst, arith, if◌then◌else◌}
use Rattle.ti_words.specs.Spelling.{without_names}
use Rattle.ti_words.specs.Items.{ExtendedSubject, FlagItem, ItemValue, NumberItem, StandardSubject, SubjectValue, TextItem, none_of}
use Rattle.std.proofs.lemmas.Bool.{cases_lt}
use Rattle.std.proofs.lemmas.Int.{ints, clamps}
use Rattle.std.proofs.lemmas.List.{get_or_past}
use Rattle.std.proofs.lemmas.List.Elements.{Contains-append_left, Contains-append_right, Contains-get_or}
use Rattle.std.proofs.lemmas.List.FromFn.{get_or-map-range_with_len, length-map-range_with_len}
use Rattle.std.proofs.lemmas.Map.Views.{Contains-from_any}
use Rattle.std.proofs.lemmas.Option.{get_or_from_slice_get, slice_get_within}
use Rattle.std.proofs.lemmas.Slice.Eq.{bytes_eq-Decides}
use Rattle.std.specs.List.{Contains}
use Rattle.std.specs.Prelude.{max, Some, None}
use Rattle.ti_words.specs.declared.Flag.TheVariants as flags
use Rattle.ti_words.specs.declared.Kind.{Kind}
use Rattle.ti_words.specs.declared.Kind.TheVariants as kinds
use Rattle.ti_words.specs.declared.Number.TheVariants as numbers
use Rattle.ti_words.specs.Texts.{AbsentText}
use Rattle.ti_words.specs.Value.{EntryValue}
use Rattle.ti_entry.specs.Finding.{IsLeastIndex, names_of}
use Rattle.ti_line.specs.declared.options.Likeness.{Likeness}
use Rattle.ti_listing.specs.Differences.{AreAlike, AreDifferences, AreSame, AreSameItems, AreTold, DifferenceValue, format_difference, IsChange, IsDifference, item_difference, names_difference, TellsApart, extended_of_both, has, names_of_both, of_each_kind, standard_of_both, subjects_of_both, with_new}
use Rattle.ti_entry.specs.Items.{IsItemOf, count_of_kind, item_found, item_in}
use Rattle.ti_listing.proofs.IsLeastIndexLemmas.{one_first}

-- ---- lists

both_empty : (xs ys : List DifferenceValue) → xs ++ ys ≡ [] → (xs ≡ []) × (ys ≡ [])
both_empty [] ys e = (refl, e)
both_empty (x ∷ xs) ys e = absurd cc

append_empty : (out xs ys : List DifferenceValue) → out ≡ xs ++ ys → xs ≡ [] → ys ≡ [] → out ≡ []
append_empty out xs ys is e f = is ∙ ap (λ l. l ++ ys) e ∙ f

contains_map : {X Y : Type 0} (f : X → Y) (xs : List X) (x : X) → Contains xs x → Contains (map f xs) (f x)
contains_map f (y ∷ ys) x (zero, within, is) = (zero, omega arith, ap f is)
contains_map f (y ∷ ys) x (suc k, within, is) =
    let rest = contains_map f ys x (k, omega (arith, within), is) in
    (suc rest.0, omega (arith, rest.1), rest.2)
contains_map f [] x (k, within, is) = absurd (omega (arith, within))

-- ---- one item

change_empty : {V : Type 0} (Same : V → V → Type 0) (differ : V → V → DifferenceValue) (one other : V) (out : List DifferenceValue) → IsChange Same differ one other out → Same one other → out ≡ []
change_empty Same differ one other out (inl (same, none)) e = none
change_empty Same differ one other out (inr (apart, is)) e = absurd (apart e)

change_same : {V : Type 0} (Same : V → V → Type 0) (differ : V → V → DifferenceValue) (one other : V) → IsChange Same differ one other [] → Same one other
change_same Same differ one other (inl (same, none)) = same
change_same Same differ one other (inr (apart, is)) = absurd cc

one_change : {V : Type 0} (Same : V → V → Type 0) (differ : V → V → DifferenceValue) (one other : V) (a b : List DifferenceValue) → IsChange Same differ one other a → IsChange Same differ one other b → a ≡ b
one_change Same differ one other a b (inl (same, is)) (inl (again, also)) = is ∙ sym also
one_change Same differ one other a b (inl (same, is)) (inr (apart, also)) = absurd (apart same)
one_change Same differ one other a b (inr (apart, is)) (inl (same, also)) = absurd (apart same)
one_change Same differ one other a b (inr (apart, is)) (inr (again, also)) = is ∙ sym also

-- what an entry has of a capability is one value
one_item : (v : EntryValue) (subject : SubjectValue) (a b : ItemValue) → IsItemOf v subject a → IsItemOf v subject b → a ≡ b
one_item v (StandardSubject kind index) a b is also = is ∙ sym also
one_item v (ExtendedSubject kind name) a b (found, least, is) (again, too, also) =
    is ∙ ap (item_found (without_names v.extended) kind) (one_first (names_of v.extended kind) name found again least too) ∙ sym also

-- ---- the capabilities of both

kept : (names : List (List ℕ)) (name x : List ℕ) (b : Bool) → Contains names x → Contains (if b then names else names ++ name ∷ []) x
kept names name x true h = h
kept names name x false h = Contains-append_left names (name ∷ []) x h

new_keeps : (names more : List (List ℕ)) (x : List ℕ) → Contains names x → Contains (with_new names more) x
new_keeps names [] x h = h
new_keeps names (name ∷ more) x h = new_keeps (if has names name then names else names ++ name ∷ []) more x (kept names name x (has names name) h)

there : (names : List (List ℕ)) (name : List ℕ) (b : Bool) → has names name ≡ b → Contains (if b then names else names ++ name ∷ []) name
there names name true is = Contains-from_any (λ x y same. (bytes_eq-Decides x y).0 same) name names is
there names name false is = Contains-append_right names (name ∷ []) name (zero, omega arith, refl)

new_adds : (names more : List (List ℕ)) (x : List ℕ) → Contains more x → Contains (with_new names more) x
new_adds names [] x (k, within, is) = absurd (omega (arith, within))
new_adds names (name ∷ more) x (zero, within, is) =
    let onto : List (List ℕ) = if has names name then names else names ++ name ∷ [] in
    subst (λ y. Contains (with_new onto more) y) is (new_keeps onto more name (there names name (has names name) refl))
new_adds names (name ∷ more) x (suc k, within, is) = new_adds (if has names name then names else names ++ name ∷ []) more x (k, omega (arith, within), is)

of_kind_is : (of_kind : Kind → List SubjectValue) (kind : Kind) (x : SubjectValue) → Contains (of_kind kind) x → Contains (of_each_kind of_kind) x
of_kind_is of_kind kinds.Flag x h =
    Contains-append_left (of_kind kinds.Flag ++ of_kind kinds.Number) (of_kind kinds.Text) x (Contains-append_left (of_kind kinds.Flag) (of_kind kinds.Number) x h)
of_kind_is of_kind kinds.Number x h =
    Contains-append_left (of_kind kinds.Flag ++ of_kind kinds.Number) (of_kind kinds.Text) x (Contains-append_right (of_kind kinds.Flag) (of_kind kinds.Number) x h)
of_kind_is of_kind kinds.Text x h = Contains-append_right (of_kind kinds.Flag ++ of_kind kinds.Number) (of_kind kinds.Text) x h

-- past the end nothing is there
past_standard : (kind : Kind) (v : EntryValue) (i : ℕ) → count_of_kind v.standard kind ≤ i → item_in v.standard kind i ≡ none_of kind
past_standard kinds.Flag v i h = ap FlagItem (get_or_past v.standard.flags i flags.No h)
past_standard kinds.Number v i h = ap NumberItem (get_or_past v.standard.numbers i numbers.Absent h)
past_standard kinds.Text v i h = ap TextItem (get_or_past v.standard.texts i AbsentText h)

max_left : (m n i : ℕ) → max m n ≤ i → m ≤ i
max_left m n i h = omega (arith, ints, clamps)

max_right : (m n i : ℕ) → max m n ≤ i → n ≤ i
max_right m n i h = omega (arith, ints, clamps)

found_in : (names : List (List ℕ)) (name : List ℕ) (i : ℕ) → IsLeastIndex names name (Some i) → Contains names name
found_in names name i least =
    subst (Contains names) (get_or_from_slice_get names i name [] least.0) (Contains-get_or names i [] (slice_get_within names i name least.0))

module _ (v w : EntryValue) where
  standard_is : (kind : Kind) (i : ℕ) → i < max (count_of_kind v.standard kind) (count_of_kind w.standard kind) → Contains (subjects_of_both v w) (StandardSubject kind i)
  standard_is kind i within =
      let n : ℕ = max (count_of_kind v.standard kind) (count_of_kind w.standard kind) in
      let at : Contains (standard_of_both v w kind) (StandardSubject kind i) =
      subst (Contains (standard_of_both v w kind)) (get_or-map-range_with_len (StandardSubject kind) 0 n i i (StandardSubject kind 0) within (omega arith))
      (Contains-get_or (standard_of_both v w kind) i (StandardSubject kind 0) (omega (arith, within, length-map-range_with_len (StandardSubject kind) 0 n))) in
      Contains-append_left (of_each_kind (standard_of_both v w)) (of_each_kind (extended_of_both v w)) (StandardSubject kind i) (of_kind_is (standard_of_both v w) kind (StandardSubject kind i) at)

  extended_is : (kind : Kind) (name : List ℕ) → Contains (names_of_both v w kind) name → Contains (subjects_of_both v w) (ExtendedSubject kind name)
  extended_is kind name h =
      Contains-append_right (of_each_kind (standard_of_both v w)) (of_each_kind (extended_of_both v w)) (ExtendedSubject kind name)
      (of_kind_is (extended_of_both v w) kind (ExtendedSubject kind name) (contains_map (ExtendedSubject kind) (names_of_both v w kind) name h))

  -- a capability is among them, or neither entry has it
  is_listed : (subject : SubjectValue) (one other : ItemValue) → IsItemOf v subject one → IsItemOf w subject other → Contains (subjects_of_both v w) subject ⊎ (one ≡ other)
  is_listed (StandardSubject kind i) one other of_one of_other =
      let m = count_of_kind v.standard kind in
      let n = count_of_kind w.standard kind in
      elim (cases_lt i (max m n)) [
        | inl within ↦ inl (standard_is kind i within)
        | inr past ↦ inr (of_one ∙ past_standard kind v i (max_left m n i past) ∙ sym (past_standard kind w i (max_right m n i past)) ∙ sym of_other)
      ]
  is_listed (ExtendedSubject kind name) one other (Some i, least, is) of_other =
      let first = names_of v.extended kind in
      inl (extended_is kind name (new_keeps (with_new [] first) (names_of w.extended kind) name (new_adds [] first name (found_in first name i least))))
  is_listed (ExtendedSubject kind name) one other (None, lacks, is) (Some i, least, is_too) =
      let more = names_of w.extended kind in
      inl (extended_is kind name (new_adds (with_new [] (names_of v.extended kind)) more name (found_in more name i least)))
  is_listed (ExtendedSubject kind name) one other (None, lacks, is) (None, lacks_too, is_too) = inr (is ∙ sym is_too)

-- ---- capabilities of which nothing is told

module _ (P : SubjectValue → List DifferenceValue → Type 0) where
  told_empty : (xs : List SubjectValue) (out : List DifferenceValue) → ((x : SubjectValue) (one : List DifferenceValue) → P x one → one ≡ []) → AreTold P xs out → out ≡ []
  told_empty [] out h are = are
  told_empty (x ∷ xs) out h (first, last, one, are, is) = append_empty out first last is (h x first one) (told_empty xs last h are)

  told_each : (xs : List SubjectValue) (out : List DifferenceValue) → AreTold P xs out → out ≡ [] → (x : SubjectValue) → Contains xs x → P x []
  told_each [] out are none x (k, within, is) = absurd (omega (arith, within))
  told_each (y ∷ xs) out (first, last, one, are, joined) none x (zero, within, is) =
      let parts = both_empty first last (sym joined ∙ none) in
      subst (λ z. P z []) is (subst (P y) parts.0 one)
  told_each (y ∷ xs) out (first, last, one, are, joined) none x (suc k, within, is) =
      let parts = both_empty first last (sym joined ∙ none) in
      told_each xs last are parts.1 x (k, omega (arith, within), is)

  told_once : (xs : List SubjectValue) (a b : List DifferenceValue) → ((x : SubjectValue) (c d : List DifferenceValue) → P x c → P x d → c ≡ d) → AreTold P xs a → AreTold P xs b → a ≡ b
  told_once [] a b h is also = is ∙ sym also
  told_once (x ∷ xs) a b h (first, last, one, are, is) (again, rest, too, also, joined) = is ∙ ap₂ (λ c d. c ++ d) (h x first again one too) (told_once xs last rest h are also) ∙ sym joined

-- ---- two entries

module _ (by : Likeness) (v w : EntryValue) where
  same_in : (out : List DifferenceValue) → AreTold (IsDifference by v w) (subjects_of_both v w) out → out ≡ [] → (subject : SubjectValue) (one other : ItemValue) → IsItemOf v subject one → IsItemOf w subject other
      → Contains (subjects_of_both v w) subject ⊎ (one ≡ other) → AreSameItems by one other
  same_in out are none subject one other of_one of_other (inr same) = inl same
  same_in out are none subject one other of_one of_other (inl listed) = go (told_each (IsDifference by v w) (subjects_of_both v w) out are none subject listed)
    where
      go : IsDifference by v w subject [] → AreSameItems by one other
      go (a, b, of_a, of_b, change) =
          let Left : ItemValue → Type 0 = λ x. AreSameItems by x b in
          let Right : ItemValue → Type 0 = λ x. AreSameItems by one x in
          subst Right (one_item w subject b other of_b of_other) (subst Left (one_item v subject a one of_a of_one) (change_same (AreSameItems by) (item_difference subject) a b change))

  alike_tells : (out : List DifferenceValue) → AreDifferences by v w out → AreAlike by v w → out ≡ []
  alike_tells out d alike =
      append_empty out (d.format ++ d.names) d.capabilities d.joined
      (append_empty (d.format ++ d.names) d.format d.names refl (change_empty AreSame format_difference v.width w.width d.format d.in_format alike.format) (change_empty AreSame names_difference v.names w.names d.names d.in_names alike.names))
      (told_empty (IsDifference by v w) (subjects_of_both v w) d.capabilities same d.in_capabilities)
    where
      same : (subject : SubjectValue) (told : List DifferenceValue) → IsDifference by v w subject told → told ≡ []
      same subject told (one, other, of_one, of_other, change) = change_empty (AreSameItems by) (item_difference subject) one other told change (alike.capabilities subject one other of_one of_other)

  silent_alike : (out : List DifferenceValue) → AreDifferences by v w out → out ≡ [] → AreAlike by v w
  silent_alike out d none =
      let last = both_empty (d.format ++ d.names) d.capabilities (sym d.joined ∙ none) in
      let head = both_empty d.format d.names last.0 in record {
        format = change_same AreSame format_difference v.width w.width (subst (IsChange AreSame format_difference v.width w.width) head.0 d.in_format);
        names = change_same AreSame names_difference v.names w.names (subst (IsChange AreSame names_difference v.names w.names) head.1 d.in_names);
        capabilities = λ subject one other of_one of_other. same_in d.capabilities d.in_capabilities last.1 subject one other of_one of_other (is_listed v w subject one other of_one of_other);
      }

  one_difference : (subject : SubjectValue) (a b : List DifferenceValue) → IsDifference by v w subject a → IsDifference by v w subject b → a ≡ b
  one_difference subject a b (one, other, of_one, of_other, change) (again, too, of_again, of_too, changed) =
      let Left : ItemValue → Type 0 = λ x. IsChange (AreSameItems by) (item_difference subject) x other a in
      let Right : ItemValue → Type 0 = λ x. IsChange (AreSameItems by) (item_difference subject) again x a in
      one_change (AreSameItems by) (item_difference subject) again too a b (subst Right (one_item w subject other too of_other of_too) (subst Left (one_item v subject one again of_one of_again) change)) changed

  -- what is told of two entries is one list
  pub one_list : (a b : List DifferenceValue) → AreDifferences by v w a → AreDifferences by v w b → a ≡ b
  one_list a b x y =
      x.joined
      ∙ ap₂ (λ c d. c ++ d) (ap₂ (λ c d. c ++ d) (one_change AreSame format_difference v.width w.width x.format y.format x.in_format y.in_format) (one_change AreSame names_difference v.names w.names x.names y.names x.in_names y.in_names))
      (told_once (IsDifference by v w) (subjects_of_both v w) x.capabilities y.capabilities one_difference x.in_capabilities y.in_capabilities)
      ∙ sym y.joined

pub tells_apart : (by : Likeness) (v w : EntryValue) (out : List DifferenceValue) → AreDifferences by v w out → TellsApart by v w out
tells_apart by v w out d = (alike_tells by v w out d, silent_alike by v w out d)
