-- Names of extended capabilities that stand twice, or that are names of terminfo(5).
use Rattle.std.specs.Prelude.{◌≡◌, ◌⊎◌, ℕ, List, [], Contains, if◌then◌else◌, is_some, take}
use Rattle.ti_names.specs.declared.name_table.NameTable.TheVariants as tables
use Rattle.ti_names.specs.AllNames.{place_in}
use Rattle.ti_words.specs.Spelling.{part_names}
use Rattle.ti_words.specs.Value.{NamedPart}
use Rattle.ti_rules.specs.declared.finding.Finding.TheVariants as findings
use Rattle.ti_rules.specs.Lines.{AreReports}
use Rattle.ti_rules.specs.Remarks.{NoEvidence, OfName, Remark, unmarked}
use Rattle.ti_rules.specs.declared.finding.Finding.{Finding}
use Rattle.ti_rules.specs.declared.names.NameKind.{NameKind}
use Rattle.ti_rules.specs.declared.names.NameKind.TheVariants as kinds

-- the remark on a name
abbrev pub on_name : List ℕ → Finding → List Remark
on_name name finding = unmarked (OfName name) finding NoEvidence

-- a name that is one of the 497 of terminfo(5)
abbrev pub on_standard_name : List ℕ → List Remark
on_standard_name name = if is_some (place_in tables.All name) then on_name name findings.StandardName else []

-- what is told of a name that stands the first time, and of one that stands again
abbrev pub on_new : NameKind → List ℕ → List Remark
on_new kinds.Own name = on_standard_name name
on_new kinds.Alias name = []

abbrev pub on_again : NameKind → List ℕ → List Remark
on_again kinds.Own name = on_name name findings.RepeatedName
on_again kinds.Alias name = on_name name findings.RepeatedAlias

-- the name at an index stands among those before it, or not
abbrev pub IsNameReport : NameKind → List (List ℕ) → ℕ → List ℕ → List Remark → Type 0
IsNameReport kind names index name remarks =
    (Contains (take index names) name × (remarks ≡ on_again kind name))
    ⊎ ((¬ Contains (take index names) name) × (remarks ≡ on_new kind name))

-- the names of flags, then of numbers, then of texts
abbrev pub AreNameRemarks : NamedPart → List Remark → Type 0
AreNameRemarks part = AreReports (IsNameReport kinds.Own (part_names part)) 0 (part_names part)
