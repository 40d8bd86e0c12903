-- What is wrong with an entry as a whole: its colors, its layout, and where its extended names start.
use Rattle.std.specs.Prelude.{ℕ, suc, ◌&&◌, ◌||◌, pos, Bool, true, false, not, List, [], ◌++◌, codes, get_or, if◌then◌else◌, is_none, Option, Some, None}
use Rattle.std.specs.Str.{bytes_eq}
use Rattle.ti_words.specs.declared.Flag.{Flag}
use Rattle.ti_words.specs.declared.Flag.TheVariants as flags
use Rattle.ti_words.specs.declared.Kind.TheVariants as kinds
use Rattle.ti_words.specs.declared.Number.{Number}
use Rattle.ti_words.specs.declared.Number.TheVariants as numbers
use Rattle.ti_names.specs.declared.name_table.NameTable.TheVariants as tables
use Rattle.ti_names.specs.AllNames.{Place, place_in}
use Rattle.ti_words.specs.Texts.{TextValue, AbsentText, TextOf}
use Rattle.ti_words.specs.Value.{EntryValue}
use Rattle.ti_draft.specs.Canonical.{canonical}
use Rattle.ti_draft.specs.EncodeFaults.{encode_fault}
use Rattle.ti_rules.specs.declared.finding.Finding.{Finding}
use Rattle.ti_rules.specs.declared.finding.Finding.TheVariants as findings
use Rattle.ti_rules.specs.Bases.{bases_differ}
use Rattle.ti_rules.specs.Remarks.{NoEvidence, OfEntry, Remark, unmarked}

-- ---- what an entry has

abbrev pub is_set : Flag → Bool
is_set flags.Yes = true
is_set flag = false

abbrev pub is_above_0 : Number → Bool
is_above_0 (numbers.Value (pos (suc n))) = true
is_above_0 number = false

abbrev pub is_there : TextValue → Bool
is_there (TextOf text) = true
is_there text = false

-- at a place stands a flag that is set, a number above 0, or a text that is there
abbrev pub has_at : EntryValue → Place → Bool
has_at v (kinds.Flag, index) = is_set (get_or v.standard.flags index flags.No)
has_at v (kinds.Number, index) = is_above_0 (get_or v.standard.numbers index numbers.Absent)
has_at v (kinds.Text, index) = is_there (get_or v.standard.texts index AbsentText)

abbrev pub has_at_place : EntryValue → Option Place → Bool
has_at_place v None = false
has_at_place v (Some place) = has_at v place

-- the same of the capability of terminfo(5) with a name
unfoldable pub has : EntryValue → List ℕ → Bool
has v name = has_at_place v (place_in tables.All name)

-- ---- colors (terminfo(5), Color Handling)

-- nothing brings back the colors that there were before: op the pair, oc all colors
abbrev pub colors_stay : EntryValue → Bool
colors_stay v = has v (codes "colors") && not (has v (codes "op") || has v (codes "oc"))

-- nothing selects a color: setaf and setf one, as Tektronix does, and scp a pair, as HP does
abbrev pub has_no_colors : EntryValue → Bool
has_no_colors v =
    has v (codes "colors") && not (has v (codes "setaf") || has v (codes "setf") || has v (codes "scp"))

-- colors can be changed, and nothing changes one: initc a color, and initp a pair
abbrev pub colors_are_fixed : EntryValue → Bool
colors_are_fixed v = has v (codes "ccc") && not (has v (codes "initc") || has v (codes "initp"))

-- ---- the layout

-- the bytes are those that are written of the entry
abbrev pub is_canonical : List ℕ → EntryValue → Bool
is_canonical bytes v = is_none (encode_fault v) && bytes_eq bytes (canonical v)

-- ---- the remarks

-- what is wrong with the entry, if it is
abbrev pub found_if : Bool → Finding → List Remark
found_if found finding = if found then unmarked OfEntry finding NoEvidence else []

abbrev pub color_remarks : EntryValue → List Remark
color_remarks v =
    found_if (colors_stay v) findings.ColorsStay
    ++ (found_if (has_no_colors v) findings.NoColors ++ found_if (colors_are_fixed v) findings.ColorsAreFixed)

-- the remarks on an entry that the bytes spell
abbrev pub whole_remarks : List ℕ → EntryValue → List Remark
whole_remarks bytes v =
    color_remarks v
    ++ (found_if (not (is_canonical bytes v)) findings.Layout ++ found_if (bases_differ bytes) findings.Base)
