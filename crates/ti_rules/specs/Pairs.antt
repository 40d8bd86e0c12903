-- Two texts of which one should undo the other.
use Rattle.std.specs.Prelude.{◌==◌, ◌||◌, ℕ, List, [], ◌++◌, if◌then◌else◌, length, not, unwrap_or}
use Rattle.std.specs.List.{flat_map}
use Rattle.std.specs.Str.{bytes_eq}
use Rattle.ti_words.specs.declared.Kind.TheVariants as kinds
use Rattle.ti_names.specs.declared.name_table.NameTable.TheVariants as tables
use Rattle.ti_names.specs.AllNames.{name_in}
use Rattle.ti_words.specs.Texts.{TextValue, TextOf}
use Rattle.ti_words.specs.Value.{EntryValue}
use Rattle.ti_rules.specs.declared.finding.Finding.{Finding}
use Rattle.ti_rules.specs.declared.finding.Finding.TheVariants as findings
use Rattle.ti_lint.specs.Pairs.{NamePair, all_pairs, all_toggles}
use Rattle.ti_rules.specs.Remarks.{NoEvidence, OfTwo, Remark, unmarked}
use Rattle.ti_rules.specs.Values.{text_named}

-- what the standard text at an index is called
abbrev pub standard_label : ℕ → List ℕ
standard_label index = unwrap_or (name_in tables.All kinds.Text index) []

-- both texts, if they are the same and send something
abbrev pub equal_pair : Finding → List ℕ → List ℕ → TextValue → TextValue → List Remark
equal_pair finding one other (TextOf text) (TextOf same) =
    if length text == 0 || not (bytes_eq text same) then []
    else unmarked (OfTwo one text other same) finding NoEvidence
equal_pair finding one other text same = []

-- the texts of an entry with two names
abbrev pub pair_remarks : Finding → EntryValue → NamePair → List Remark
pair_remarks finding v (one, other) = equal_pair finding one other (text_named v one) (text_named v other)

-- each pair of texts of which one should undo the other, and those that start and end a mode
abbrev pub all_pair_remarks : EntryValue → List Remark
all_pair_remarks v =
    flat_map (pair_remarks findings.EqualPair v) all_pairs ++ flat_map (pair_remarks findings.ToggledPair v) all_toggles
