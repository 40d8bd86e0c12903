-- An entry as one list of its capabilities, each with its value (term(5)).
use Rattle.std.specs.Prelude.{ℕ, Bool, true, false, List, ◌++◌, Option, Some, None, map}
use Rattle.std.specs.List.{enumerate_from}
use Rattle.ti_words.specs.declared.Flag.{Flag}
use Rattle.ti_words.specs.declared.Flag.TheVariants as flags
use Rattle.ti_words.specs.declared.Kind.{Kind}
use Rattle.ti_words.specs.declared.Kind.TheVariants as kinds
use Rattle.ti_words.specs.declared.Number.{Number}
use Rattle.ti_words.specs.declared.Number.TheVariants as numbers
use Rattle.ti_words.specs.declared.item.Item.{Item}
use Rattle.ti_words.specs.declared.item.Item.TheVariants as values
use Rattle.ti_words.specs.declared.item.Subject.{Subject}
use Rattle.ti_words.specs.declared.item.Subject.TheVariants as subjects
use Rattle.ti_words.specs.Texts.{TextValue, AbsentText, CancelledText, TextOf, text_value}
use Rattle.ti_words.specs.Value.{EntryValue, NamedPart, PartValue}

-- which capability: one of terminfo(5) by its kind and index, or one that the entry names itself by its kind and name
pub data SubjectValue : Type 0 where
  StandardSubject : Kind → ℕ → SubjectValue
  ExtendedSubject : Kind → List ℕ → SubjectValue

-- the value of a capability, by its kind
pub data ItemValue : Type 0 where
  FlagItem : Flag → ItemValue
  NumberItem : Number → ItemValue
  TextItem : TextValue → ItemValue

-- the value of a capability that an entry does not have
abbrev pub none_of : Kind → ItemValue
none_of kinds.Flag = FlagItem flags.No
none_of kinds.Number = NumberItem numbers.Absent
none_of kinds.Text = TextItem AbsentText

-- a capability and its value
abbrev pub Listed : Type 0
Listed = SubjectValue × ItemValue

-- whether the terminal has it
abbrev pub is_there : ItemValue → Bool
is_there (FlagItem flags.Yes) = true
is_there (FlagItem flags.No) = false
is_there (FlagItem flags.Cancelled) = false
is_there (FlagItem flags.Missing) = false
is_there (NumberItem (numbers.Value n)) = true
is_there (NumberItem numbers.Absent) = false
is_there (NumberItem numbers.Cancelled) = false
is_there (TextItem (TextOf bytes)) = true
is_there (TextItem AbsentText) = false
is_there (TextItem CancelledText) = false

-- the bytes of a text that is there
abbrev pub text_in : ItemValue → Option (List ℕ)
text_in (FlagItem flag) = None
text_in (NumberItem number) = None
text_in (TextItem AbsentText) = None
text_in (TextItem CancelledText) = None
text_in (TextItem (TextOf bytes)) = Some bytes

-- ---- the list

-- those of terminfo(5), each at its index
abbrev pub standard_items : PartValue → List Listed
standard_items p =
    map (λ at. (StandardSubject kinds.Flag at.0, FlagItem at.1)) (enumerate_from 0 p.flags)
    ++ map (λ at. (StandardSubject kinds.Number at.0, NumberItem at.1)) (enumerate_from 0 p.numbers)
    ++ map (λ at. (StandardSubject kinds.Text at.0, TextItem at.1)) (enumerate_from 0 p.texts)

-- those that the entry names itself
abbrev pub extended_items : NamedPart → List Listed
extended_items p =
    map (λ named. (ExtendedSubject kinds.Flag named.0, FlagItem named.1)) p.flags
    ++ map (λ named. (ExtendedSubject kinds.Number named.0, NumberItem named.1)) p.numbers
    ++ map (λ named. (ExtendedSubject kinds.Text named.0, TextItem named.1)) p.texts

-- all: every place below a count, those that are absent or cancelled too
abbrev pub items : EntryValue → List Listed
items v = standard_items v.standard ++ extended_items v.extended

-- ---- as a caller sees them

abbrev pub subject_value : Subject → SubjectValue
subject_value (subjects.Standard kind index) = StandardSubject kind index
subject_value (subjects.Extended kind name) = ExtendedSubject kind name.now

abbrev pub kind_of : Subject → Kind
kind_of (subjects.Standard kind index) = kind
kind_of (subjects.Extended kind name) = kind

abbrev pub item_value : Item → ItemValue
item_value (values.Flag flag) = FlagItem flag
item_value (values.Number number) = NumberItem number
item_value (values.Text text) = TextItem (text_value text)

abbrev pub listed_value : Subject × Item → Listed
listed_value (subject, item) = (subject_value subject, item_value item)
