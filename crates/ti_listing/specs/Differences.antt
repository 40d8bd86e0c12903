-- What two entries do not have alike, one item after another.
use Rattle.std.specs.Prelude.{◌≡◌, ◌⊎◌, ℕ, Bool, List, [], ◌∷◌, ◌++◌, map, max, if◌then◌else◌}
use Rattle.std.specs.List.{list_any, range_with_len}
use Rattle.std.specs.Str.{bytes_eq}
use Rattle.ti_words.specs.Items.{ExtendedSubject, ItemValue, StandardSubject, SubjectValue, TextItem}
use Rattle.ti_words.specs.declared.Kind.{Kind}
use Rattle.ti_words.specs.declared.Kind.TheVariants as kinds
use Rattle.ti_words.specs.declared.Width.{Width}
use Rattle.ti_words.specs.Texts.{TextOf}
use Rattle.ti_words.specs.Value.{EntryValue}
use Rattle.ti_cap.specs.declared.language.Token.{Token}
use Rattle.ti_cap.specs.Refusal.{IsFaultless}
use Rattle.ti_cap.specs.Spelling.{Written}
use Rattle.ti_json.specs.Rows.{ContentValue, HasFormat, HasNames, OfCapability, OfFormat, OfNames, TopicValue, content_of}
use Rattle.ti_entry.specs.Finding.{names_of}
use Rattle.ti_line.specs.declared.options.Likeness.{Likeness}
use Rattle.ti_line.specs.declared.options.Likeness.TheVariants as likenesses
use Rattle.ti_entry.specs.Items.{IsItemOf, count_of_kind}

-- ---- one item

-- what differs, what the first entry has of it and what the other has
abbrev pub DifferenceValue : Type 0
DifferenceValue = TopicValue × ContentValue × ContentValue

abbrev pub format_difference : Width → Width → DifferenceValue
format_difference first other = (OfFormat, HasFormat first, HasFormat other)

abbrev pub names_difference : List ℕ → List ℕ → DifferenceValue
names_difference first other = (OfNames, HasNames first, HasNames other)

abbrev pub item_difference : SubjectValue → ItemValue → ItemValue → DifferenceValue
item_difference subject first other = (OfCapability subject, content_of first, content_of other)

-- nothing is told of what both have alike
abbrev pub IsChange : {V : Type 0} → (V → V → Type 0) → (V → V → DifferenceValue) → V → V
    → List DifferenceValue → Type 0
IsChange AreSame differ one other told =
    (AreSame one other × (told ≡ [])) ⊎ ((¬ AreSame one other) × (told ≡ differ one other ∷ []))

-- the same tokens write both texts, which are capabilities, so that they expand to the same
abbrev pub HaveSameTokens : List ℕ → List ℕ → Type 0
HaveSameTokens one other =
    IsFaultless one × IsFaultless other × ((ks : List Token) × Written ks one × Written ks other)

abbrev pub AreSpelledAlike : ItemValue → ItemValue → Type 0
AreSpelledAlike (TextItem (TextOf one)) (TextItem (TextOf other)) = HaveSameTokens one other
AreSpelledAlike _ _ = ⊥

-- values are alike if they are the same; texts may also be so by their tokens
abbrev pub AreSameItems : Likeness → ItemValue → ItemValue → Type 0
AreSameItems by one other = (one ≡ other) ⊎ ((by ≡ likenesses.Tokens) × AreSpelledAlike one other)

abbrev pub AreSame : {V : Type 0} → V → V → Type 0
AreSame one other = one ≡ other

-- what is told of a capability, by what each entry has of it
abbrev pub IsDifference : Likeness → EntryValue → EntryValue → SubjectValue → List DifferenceValue → Type 0
IsDifference by v w subject told =
    (one : ItemValue) × (other : ItemValue) × IsItemOf v subject one × IsItemOf w subject other
    × IsChange (AreSameItems by) (item_difference subject) one other told

-- ---- the capabilities of two entries, each once

-- those of terminfo(5) of a kind, to the end of the entry that has more
abbrev pub standard_of_both : EntryValue → EntryValue → Kind → List SubjectValue
standard_of_both v w kind =
    map (StandardSubject kind) (range_with_len 0 (max (count_of_kind v.standard kind) (count_of_kind w.standard kind)))

-- whether a name is among others
abbrev pub has : List (List ℕ) → List ℕ → Bool
has names name = list_any (bytes_eq name) names

-- the names, and after them those of a list that are not among them yet
abbrev pub with_new : List (List ℕ) → List (List ℕ) → List (List ℕ)
with_new names [] = names
with_new names (name ∷ more) = with_new (if has names name then names else names ++ name ∷ []) more

-- the extended ones of a kind, by the names of the first entry and then by those that only the other has
abbrev pub names_of_both : EntryValue → EntryValue → Kind → List (List ℕ)
names_of_both v w kind = with_new (with_new [] (names_of v.extended kind)) (names_of w.extended kind)

abbrev pub extended_of_both : EntryValue → EntryValue → Kind → List SubjectValue
extended_of_both v w kind = map (ExtendedSubject kind) (names_of_both v w kind)

-- flags, then numbers, then texts
abbrev pub of_each_kind : (Kind → List SubjectValue) → List SubjectValue
of_each_kind of_kind = of_kind kinds.Flag ++ of_kind kinds.Number ++ of_kind kinds.Text

abbrev pub subjects_of_both : EntryValue → EntryValue → List SubjectValue
subjects_of_both v w = of_each_kind (standard_of_both v w) ++ of_each_kind (extended_of_both v w)

-- ---- two entries

-- what is told of each of some capabilities, one after another
abbrev pub AreTold : (SubjectValue → List DifferenceValue → Type 0) → List SubjectValue → List DifferenceValue → Type 0
AreTold IsTold [] told = told ≡ []
AreTold IsTold (subject ∷ more) told =
    (first : List DifferenceValue) × (last : List DifferenceValue)
    × IsTold subject first × AreTold IsTold more last × (told ≡ first ++ last)

-- the format and the names, then the capabilities
pub record AreDifferences (by : Likeness) (v w : EntryValue) (told : List DifferenceValue) : Type 0 where
  pub format : List DifferenceValue
  pub names : List DifferenceValue
  pub capabilities : List DifferenceValue
  pub in_format : IsChange AreSame format_difference v.width w.width format
  pub in_names : IsChange AreSame names_difference v.names w.names names
  pub in_capabilities : AreTold (IsDifference by v w) (subjects_of_both v w) capabilities
  pub joined : told ≡ format ++ names ++ capabilities

-- two entries say the same of the format, the names and each capability
pub record AreAlike (by : Likeness) (v w : EntryValue) : Type 0 where
  pub format : v.width ≡ w.width
  pub names : v.names ≡ w.names
  pub capabilities : (subject : SubjectValue) (one other : ItemValue)
      → IsItemOf v subject one → IsItemOf w subject other → AreSameItems by one other

-- nothing is told exactly if they do
abbrev pub TellsApart : Likeness → EntryValue → EntryValue → List DifferenceValue → Type 0
TellsApart by v w told = (AreAlike by v w → told ≡ []) × (told ≡ [] → AreAlike by v w)
