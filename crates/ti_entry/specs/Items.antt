-- What a part says at a place of the list of its capabilities.
use Rattle.std.specs.Prelude.{◌≡◌, ℕ, ◌+◌, ◌<◌, length, get_or, Option, Some, None}
use Rattle.ti_words.specs.declared.Flag.TheVariants as flags
use Rattle.ti_words.specs.declared.Kind.{Kind}
use Rattle.ti_words.specs.declared.Kind.TheVariants as kinds
use Rattle.ti_words.specs.declared.Number.TheVariants as numbers
use Rattle.ti_words.specs.Items.{ItemValue, FlagItem, NumberItem, TextItem, SubjectValue, StandardSubject, ExtendedSubject, none_of}
use Rattle.ti_words.specs.Spelling.{without_names}
use Rattle.ti_words.specs.Texts.{AbsentText}
use Rattle.ti_words.specs.Value.{EntryValue, PartValue}
use Rattle.ti_entry.specs.declared.finding.Position.{Position}
use Rattle.ti_entry.specs.declared.finding.Position.TheVariants.{Standard, Extended}
use Rattle.ti_entry.specs.Finding.{IsLeastIndex, names_of}

-- how many capabilities a part has
abbrev pub count_of : PartValue → ℕ
count_of p = length p.flags + length p.numbers + length p.texts

abbrev pub count_of_kind : PartValue → Kind → ℕ
count_of_kind p kinds.Flag = length p.flags
count_of_kind p kinds.Number = length p.numbers
count_of_kind p kinds.Text = length p.texts

-- what a part says of a kind and an index; at or above the count the flag is No, and the others are absent
abbrev pub item_in : PartValue → Kind → ℕ → ItemValue
item_in p kinds.Flag index = FlagItem (get_or p.flags index flags.No)
item_in p kinds.Number index = NumberItem (get_or p.numbers index numbers.Absent)
item_in p kinds.Text index = TextItem (get_or p.texts index AbsentText)

-- the capability of a kind at an index stands at a place of the list: flags before numbers before texts
abbrev pub StandsAt : PartValue → ℕ → Kind → ℕ → Type 0
StandsAt p place kinds.Flag index = (place ≡ index) × (index < length p.flags)
StandsAt p place kinds.Number index = (place ≡ length p.flags + index) × (index < length p.numbers)
StandsAt p place kinds.Text index = place ≡ length p.flags + length p.numbers + index

-- what a part says at an index that was found, and of what it lacks
abbrev pub item_found : PartValue → Kind → Option ℕ → ItemValue
item_found p kind (Some index) = item_in p kind index
item_found p kind None = none_of kind

-- what an entry says of a capability; of several with one kind and name the first counts
abbrev pub IsItemOf : EntryValue → SubjectValue → ItemValue → Type 0
IsItemOf v (StandardSubject kind index) item = item ≡ item_in v.standard kind index
IsItemOf v (ExtendedSubject kind name) item =
    (found : Option ℕ) × IsLeastIndex (names_of v.extended kind) name found
    × (item ≡ item_found (without_names v.extended) kind found)

-- what an entry says at a position
abbrev pub item_at : EntryValue → Position → ItemValue
item_at v (Standard kind index) = item_in v.standard kind index
item_at v (Extended kind index) = item_in (without_names v.extended) kind index
