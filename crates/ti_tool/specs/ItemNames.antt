-- Which capability of an entry a name means, and its value.
use Rattle.std.specs.Prelude.{◌≡◌, ◌⊎◌, ℕ, List, [], ◌++◌, Option, Some, None, option_map}
use Rattle.ti_words.specs.Items.{ItemValue}
use Rattle.ti_words.specs.declared.Kind.{Kind}
use Rattle.ti_words.specs.declared.Kind.TheVariants as kinds
use Rattle.ti_words.specs.Value.{NamedPart, EntryValue}
use Rattle.ti_names.specs.AllNames.{Place, place_in}
use Rattle.ti_entry.specs.Finding.{IsFirstNamed, standard_place}
use Rattle.ti_entry.specs.declared.finding.Position.{Position}
use Rattle.ti_entry.specs.declared.finding.Position.TheVariants.{Standard, Extended}
use Rattle.ti_entry.specs.Items.{item_at}
use Rattle.ti_json.specs.Rows.{kind_word}
use Rattle.ti_line.specs.TextLabels.{IsLabel}
use Rattle.ti_tool.specs.declared.item_name.Names.{Names}
use Rattle.ti_tool.specs.declared.item_name.Names.TheVariants.{Texts, All}

-- ---- labels

-- the word of a kind stands before a label, as in `flag#10`
abbrev pub IsWordLabel : List ℕ → Kind → ℕ → Type 0
IsWordLabel name kind index = (label : List ℕ) × (name ≡ kind_word kind ++ label) × IsLabel label index

-- the kind and the index of a label: that of a text may have no word before it, and has none if a name may mean a text alone
abbrev pub IsKindLabel : Names → List ℕ → Kind → ℕ → Type 0
IsKindLabel (Texts table) name kind index = (kind ≡ kinds.Text) × IsLabel name index
IsKindLabel All name kind index = ((kind ≡ kinds.Text) × IsLabel name index) ⊎ IsWordLabel name kind index

-- ---- names

-- a place if it is one of a text
abbrev pub only_text : Option Place → Option Place
only_text (Some (kinds.Text, index)) = Some (kinds.Text, index)
only_text _ = None

-- the standard capability with a name: a text in the table, or one with that short or long name
abbrev pub place_by : Names → List ℕ → Option Place
place_by (Texts table) name = only_text (place_in table name)
place_by All name = standard_place name

-- the extended capabilities that a name may mean
abbrev pub named_by : Names → NamedPart → NamedPart
named_by (Texts table) p = record { flags = []; numbers = []; texts = p.texts }
named_by All p = p

-- where an entry has the capability with a name: a standard one comes before the entry's own
abbrev pub IsPositionBy : Names → EntryValue → List ℕ → Option Position → Type 0
IsPositionBy names v name None =
    (place_by names name ≡ None) × IsFirstNamed (named_by names v.extended) name None
IsPositionBy names v name (Some (Standard kind i)) = place_by names name ≡ Some (kind, i)
IsPositionBy names v name (Some (Extended kind i)) =
    (place_by names name ≡ None) × IsFirstNamed (named_by names v.extended) name (Some (kind, i))

-- ---- the capability

-- the place of a label, or else that of the capability with the name
abbrev pub IsPlaceCalled : Names → List ℕ → EntryValue → Option Position → Type 0
IsPlaceCalled names name v place =
    ((kind : Kind) × (index : ℕ) × IsKindLabel names name kind index
    × (place ≡ Some (Standard kind index)))
    ⊎ (((kind : Kind) (index : ℕ) → ¬ IsKindLabel names name kind index)
    × IsPositionBy names v name place)

-- the value of the capability that a name means, or none if nothing has the name
abbrev pub IsItemCalled : Names → List ℕ → EntryValue → Option ItemValue → Type 0
IsItemCalled names name v item =
    (place : Option Position) × IsPlaceCalled names name v place
    × (item ≡ option_map (item_at v) place)
