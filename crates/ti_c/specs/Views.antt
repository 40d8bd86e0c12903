-- What C gets of an entry that it has opened.
use Rattle.std.specs.Prelude.{⊤, ◌≡◌, ℕ, ℤ, List, [], Option, Some, None, slice_get, unwrap_or}
use Rattle.ti_words.specs.declared.Flag.{Flag}
use Rattle.ti_words.specs.declared.Kind.{Kind}
use Rattle.ti_words.specs.declared.Number.{Number}
use Rattle.ti_words.specs.Marks.{word_of_number}
use Rattle.ti_words.specs.Spelling.{Spells}
use Rattle.ti_words.specs.Texts.{TextValue}
use Rattle.ti_words.specs.Value.{EntryValue}
use Rattle.ti_entry.specs.declared.finding.Position.{Position}
use Rattle.ti_entry.specs.declared.finding.Position.TheVariants.{Extended}
use Rattle.ti_words.specs.Items.{ExtendedSubject, FlagItem, ItemValue, Listed, NumberItem, StandardSubject, SubjectValue, TextItem, items}
use Rattle.ti_names.specs.AllNames.{name_in}
use Rattle.ti_names.specs.declared.name_table.NameTable.TheVariants as tables
use Rattle.ti_entry.specs.Items.{item_at}
use Rattle.ti_entry.specs.Finding.{IsPosition, names_of}
use Rattle.ti_entry.specs.Reading.{base_of_names}
use Rattle.ti_c.specs.declared.view.FoundItem.{FoundItem}
use Rattle.ti_c.specs.declared.view.View.{View}
use Rattle.ti_c.specs.Entries.{flag_mark, text_shown}

-- the view is of this entry: its bytes spell it, and its base is where the names are counted from
abbrev pub IsOpen : View → EntryValue → Type 0
IsOpen view v = Spells view.bytes.now v × (view.base ≡ base_of_names v)

-- ---- values: the number of a kind, a mark or a number, and the bytes of a text

abbrev pub Shown : Type 0
Shown = ℕ × ℤ × List ℕ

abbrev pub value_held : FoundItem → Shown
value_held value = (value.kind, value.number, value.text.now)

abbrev pub flag_shown : Flag → Shown
flag_shown flag = (0, flag_mark flag, [])

abbrev pub number_shown : Number → Shown
number_shown number = (1, word_of_number number, [])

abbrev pub text_value_shown : TextValue → Shown
text_value_shown text = (2, (text_shown text).0, (text_shown text).1)

abbrev pub item_shown : ItemValue → Shown
item_shown (FlagItem flag) = flag_shown flag
item_shown (NumberItem number) = number_shown number
item_shown (TextItem text) = text_value_shown text

-- what an entry says of the capability at a position; at or past the count, as the views of flags, numbers and texts
abbrev pub value_at : EntryValue → Position → Shown
value_at v at = item_shown (item_at v at)

-- what a capability is called, and whether the entry names it itself: a standard one has its short name, or none
abbrev pub subject_shown : SubjectValue → List ℕ × ℕ
subject_shown (StandardSubject kind index) = (unwrap_or (name_in tables.All kind index) [], 0)
subject_shown (ExtendedSubject kind name) = (name, 1)

-- the name and the value are those of the capability at a place of the list of all
abbrev pub IsListedAt : EntryValue → ℕ → List ℕ × ℕ → Shown → Type 0
IsListedAt v place subject shown =
    (listed : Listed) × (slice_get (items v) place ≡ Some listed)
    × (subject ≡ subject_shown listed.0) × (shown ≡ item_shown listed.1)

-- the value is that of the capability with the name
abbrev pub IsFoundIn : EntryValue → List ℕ → Shown → Type 0
IsFoundIn v name shown = (at : Position) × IsPosition v name (Some at) × (shown ≡ value_at v at)

-- the name and the value are those of the extended capability at an index
abbrev pub HasExtended : EntryValue → Option Kind → ℕ → List ℕ → Shown → Type 0
HasExtended v None index name shown = ⊥
HasExtended v (Some kind) index name shown =
    (slice_get (names_of v.extended kind) index ≡ Some name) × (shown ≡ value_at v (Extended kind index))

-- there is no extended capability at an index
abbrev pub LacksExtended : EntryValue → Option Kind → ℕ → Type 0
LacksExtended v None index = ⊤
LacksExtended v (Some kind) index = slice_get (names_of v.extended kind) index ≡ None
