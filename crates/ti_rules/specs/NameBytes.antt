-- Names with bytes that no name should have: controls, what is no UTF-8, and aliases by which no file can be found.
use Rattle.ti_base.specs.Letters.{letter}
use Rattle.std.specs.Prelude.{◌==◌, Bool, ◌≡◌, ◌⊎◌, ◌+◌, ℕ, List, [], ◌∷◌, ◌++◌, Option, None, Some, codes, if◌then◌else◌, length, nat_lt, option_map, take}
use Rattle.std.specs.Str.{IsUtf8}
use Rattle.std.specs.Str.Lossy.{utf8_valid_len}
use Rattle.ti_control.specs.Entries.{EndsAliases, starts_control, starts_empty, starts_empty_after, starts_unfit}
use Rattle.ti_words.specs.Spelling.{part_names}
use Rattle.ti_words.specs.Value.{EntryValue}
use Rattle.ti_rules.specs.Lines.{AreAll, AreReports, InTurn}
use Rattle.ti_rules.specs.declared.names.NameKind.TheVariants.{Alias}
use Rattle.ti_rules.specs.Marks.{first_place}
use Rattle.ti_rules.specs.Names.{IsNameReport, on_name}
use Rattle.ti_rules.specs.Remarks.{NoEvidence, OfText, Remark, unmarked}
use Rattle.ti_rules.specs.declared.finding.Finding.{Finding}
use Rattle.ti_rules.specs.declared.finding.Finding.TheVariants as findings

-- ---- the names of an entry, which stand in a remark as a text that is called `names`

abbrev pub on_names : List ℕ → Finding → Option ℕ → List Remark
on_names names finding None = []
on_names names finding (Some at) =
    record { about = OfText (codes "names") names; places = at ∷ []; finding = finding; evidence = NoEvidence } ∷ []

-- the first place that is no well-formed UTF-8
abbrev pub IsUtf8Report : List ℕ → List Remark → Type 0
IsUtf8Report names remarks =
    (IsUtf8 names × (remarks ≡ []))
    ⊎ ((¬ IsUtf8 names) × (remarks ≡ on_names names findings.NamesMalformed (Some (utf8_valid_len names))))

abbrev pub is_bar : ℕ → Bool
is_bar byte = byte == letter (codes "|")

-- the first empty alias
abbrev pub first_empty : List ℕ → Option ℕ
first_empty aliases =
    if starts_empty aliases then Some 0 else option_map (λ at. at + 1) (first_place starts_empty_after aliases)

-- the names before the description
abbrev pub AreAliases : List ℕ → List ℕ → Type 0
AreAliases names aliases = (end : ℕ) × EndsAliases names end × (aliases ≡ take end names)

abbrev pub alias_remarks : List ℕ → List ℕ → List Remark
alias_remarks names aliases =
    on_names names findings.EmptyAlias (first_empty aliases)
    ++ on_names names findings.UnfitAlias (first_place starts_unfit aliases)

abbrev pub IsAliasReport : List ℕ → List Remark → Type 0
IsAliasReport names remarks = (aliases : List ℕ) × AreAliases names aliases × (remarks ≡ alias_remarks names aliases)

-- what stands between `|`, after the front of the first
unfoldable pub parted : (front : List ℕ) → List ℕ → List (List ℕ)
parted front [] = front ∷ []
parted front (byte ∷ rest) = if is_bar byte then front ∷ parted [] rest else parted (front ++ byte ∷ []) rest

-- aliases that stand twice
abbrev pub IsRepeatedReport : List ℕ → List Remark → Type 0
IsRepeatedReport names remarks =
    (aliases : List ℕ) × AreAliases names aliases
    × AreReports (IsNameReport Alias (parted [] aliases)) 0 (parted [] aliases) remarks

-- more bytes than programs have room for
abbrev pub long_names : List ℕ → List Remark
long_names names =
    if nat_lt 512 (length names) then unmarked (OfText (codes "names") names) findings.LongNames NoEvidence else []

-- ---- the names of extended capabilities

abbrev pub IsFit : List ℕ → Type 0
IsFit name = IsUtf8 name × (first_place starts_control name ≡ None)

abbrev pub IsOwnNameReport : List ℕ → List Remark → Type 0
IsOwnNameReport name remarks =
    (IsFit name × (remarks ≡ [])) ⊎ ((¬ IsFit name) × (remarks ≡ on_name name findings.OwnNameControl))

-- ---- all names

abbrev pub AreNameByteRemarks : EntryValue → List Remark → Type 0
AreNameByteRemarks v =
    InTurn (λ all. all ≡ on_names v.names findings.NamesControl (first_place starts_control v.names))
    (InTurn (IsUtf8Report v.names)
    (InTurn (IsAliasReport v.names)
    (InTurn (IsRepeatedReport v.names)
    (InTurn (λ all. all ≡ long_names v.names) (AreAll IsOwnNameReport (part_names v.extended))))))
