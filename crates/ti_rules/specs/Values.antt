-- What is wrong with a text for some of the values that it may be given, and with what is sent as it stands.
use Rattle.std.specs.Prelude.{◌≡◌, ◌⊎◌, ℕ, ◌&&◌, Bool, true, false, ℤ, pos, Option, Some, None, List, [], codes, get_or, if◌then◌else◌}
use Rattle.std.specs.List.{flat_map}
use Rattle.ti_cap.specs.declared.language.CapRefused.{CapRefused}
use Rattle.ti_cap.specs.Refusal.{IsFaultless, IsRefusal}
use Rattle.ti_values.specs.declared.range.Range.{Range}
use Rattle.ti_values.specs.declared.range.Range.TheVariants as ranges
use Rattle.ti_values.specs.declared.same.Same.{Same as SameAt}
use Rattle.ti_values.specs.declared.tried.Tried.{Tried}
use Rattle.ti_values.specs.declared.tried.Tried.TheVariants.{Number}
use Rattle.ti_values.specs.Attributes.{IsCombinationAt, attributes, is_different, is_ignored}
use Rattle.ti_values.specs.Findings.{IsEmptyAt, IsFirstOf, IsFirstSame, IsShownAt, IsUnendedAt, sent_at}
use Rattle.ti_values.specs.Negative.{IsNegativeAt}
use Rattle.ti_values.specs.Ranges.{values}
use Rattle.ti_values.specs.Screens.{tried_texts}
use Rattle.ti_values.specs.Sent.{AreSent, IsShort, without_marks}
use Rattle.ti_values.specs.Sequences.{is_ansi}
use Rattle.ti_words.specs.declared.Kind.TheVariants as kinds
use Rattle.ti_words.specs.declared.Number.{Number as NumberOf}
use Rattle.ti_words.specs.declared.Number.TheVariants as numbers
use Rattle.ti_names.specs.declared.name_table.NameTable.TheVariants as tables
use Rattle.ti_names.specs.AllNames.{Place, place_in}
use Rattle.ti_words.specs.Texts.{TextValue, AbsentText, TextOf}
use Rattle.ti_words.specs.Value.{EntryValue}
use Rattle.ti_rules.specs.Lines.{AreReports, InTurn}
use Rattle.ti_rules.specs.Remarks.{Attribute, Evidence, For, Lacking, NoEvidence, Remark, Sent, SentForTwo, on_values}
use Rattle.ti_rules.specs.declared.finding.Finding.{Finding}
use Rattle.ti_rules.specs.declared.finding.Finding.TheVariants as findings
use Rattle.ti_rules.specs.Splits.{sequence_finding}
use Rattle.ti_rules.specs.Whole.{has}

-- ---- what an entry has

abbrev pub text_at : EntryValue → Option Place → TextValue
text_at v (Some (kinds.Text, index)) = get_or v.standard.texts index AbsentText
text_at v place = AbsentText

abbrev pub number_of : NumberOf → ℤ
number_of (numbers.Value n) = n
number_of number = pos 0

abbrev pub number_at : EntryValue → Option Place → ℤ
number_at v (Some (kinds.Number, index)) = number_of (get_or v.standard.numbers index numbers.Absent)
number_at v place = pos 0

-- the text and the number of terminfo(5) with a name
unfoldable pub text_named : EntryValue → List ℕ → TextValue
text_named v name = text_at v (place_in tables.All name)

unfoldable pub number_named : EntryValue → List ℕ → ℤ
number_named v name = number_at v (place_in tables.All name)

-- a motion of a terminal whose control sequences are those of ECMA-48
abbrev pub is_ansi_text : TextValue → Bool
is_ansi_text (TextOf cup) = is_ansi cup
is_ansi_text text = false

abbrev pub is_ansi_entry : EntryValue → Bool
is_ansi_entry v = is_ansi_text (text_named v (codes "cup"))

-- ---- a text that was tried

-- a text with its name, the values that it was tried over, and what it sends for each
pub record Trial : Type 0 where
  pub name : List ℕ
  pub text : List ℕ
  pub tried : List Tried
  pub sent : List (List ℕ)

-- the value at a place
abbrev pub tried_at : Trial → ℕ → Tried
tried_at t k = get_or t.tried k (Number 0)

-- the remark with the evidence of what was found, none if nothing was
abbrev pub remark_of : {X : Type 0} → Trial → Finding → (X → Evidence) → Option X → List Remark
remark_of t finding evidence None = []
remark_of t finding evidence (Some found) = on_values t.name t.text finding (evidence found)

abbrev pub IsRemarkOf : {X : Type 0} → (Option X → Type 0) → Finding → (X → Evidence) → Trial → List Remark → Type 0
IsRemarkOf {X} IsFound finding evidence t remarks =
    (found : Option X) × IsFound found × (remarks ≡ remark_of t finding evidence found)

abbrev pub IsEmptyReport : Trial → List Remark → Type 0
IsEmptyReport t = IsRemarkOf (IsFirstOf (IsEmptyAt t.sent)) findings.EmptyOutput (λ k. For (tried_at t k)) t

abbrev pub same_evidence : Trial → SameAt → Evidence
same_evidence t found = SentForTwo (tried_at t found.one) (tried_at t found.other) (sent_at t.sent found.other)

abbrev pub IsSameReport : Trial → List Remark → Type 0
IsSameReport t = IsRemarkOf (IsFirstSame t.sent) findings.SameOutput (same_evidence t) t

-- the first value for which it is so, with what is sent for it
abbrev pub sent_evidence : Trial → ℕ → Evidence
sent_evidence t k = Sent (tried_at t k) (sent_at t.sent k)

abbrev pub IsSentReport : (ℕ → Type 0) → Finding → Trial → List Remark → Type 0
IsSentReport IsAt finding t = IsRemarkOf (IsFirstOf IsAt) finding (sent_evidence t) t

abbrev pub IsNegativeReport : Trial → List Remark → Type 0
IsNegativeReport t = IsSentReport (IsNegativeAt t.text t.tried) findings.NegativeNumber t

abbrev pub IsShownReport : Trial → List Remark → Type 0
IsShownReport t = IsSentReport (IsShownAt t.sent) findings.ShownText t

abbrev pub IsCombinationReport : Trial → List Remark → Type 0
IsCombinationReport t = IsSentReport (IsCombinationAt t.sent) findings.Combination t

-- which finding it is, by what is sent
abbrev pub unended_finding : Trial → Option ℕ → Finding
unended_finding t None = findings.UnendedSequence
unended_finding t (Some k) = sequence_finding (sent_at t.sent k)

-- only of a terminal of ECMA-48
abbrev pub IsUnendedReport : Bool → Trial → List Remark → Type 0
IsUnendedReport false t = λ remarks. remarks ≡ []
IsUnendedReport true t = λ remarks.
    (found : Option ℕ) × IsFirstOf (IsUnendedAt t.sent) found × (remarks ≡ remark_of t (unended_finding t found) (sent_evidence t) found)

-- an attribute whose text is there, and which `sgr` ignores
abbrev pub ignored_if : Bool → Trial → List ℕ → ℕ → List Remark
ignored_if ignored t attribute set =
    if ignored then on_values t.name t.text findings.IgnoredAttribute (Attribute attribute set) else []

abbrev pub on_ignored : EntryValue → Trial → List ℕ × ℕ → List Remark
on_ignored v t (attribute, set) = ignored_if (has v attribute && is_ignored t.sent set) t attribute set

-- the text that starts an attribute, if what `sgr` sends for it lacks a part of that
abbrev pub differing_text : List (List ℕ) → ℕ → TextValue → Option (List ℕ)
differing_text sent set (TextOf its) = if is_different sent set (without_marks its) then Some its else None
differing_text sent set its = None

abbrev pub on_differing : EntryValue → Trial → List ℕ × ℕ → List Remark
on_differing v t (attribute, set) =
    remark_of t findings.DifferingAttribute (λ its. Lacking attribute set (sent_at t.sent set) its)
    (differing_text t.sent set (text_named v attribute))

-- what is wrong with what was sent for numbers, and for sets of attributes
abbrev pub AreNumbersRemarks : Bool → Trial → List Remark → Type 0
AreNumbersRemarks ansi t =
    InTurn (IsEmptyReport t) (InTurn (IsSameReport t) (InTurn (IsNegativeReport t) (IsUnendedReport ansi t)))

abbrev pub AreAttributesRemarks : EntryValue → Trial → List Remark → Type 0
AreAttributesRemarks v t =
    InTurn (λ remarks. remarks ≡ flat_map (on_ignored v t) attributes)
    (InTurn (λ remarks. remarks ≡ flat_map (on_differing v t) attributes)
    (InTurn (IsCombinationReport t) (InTurn (IsShownReport t) (IsUnendedReport (is_ansi_entry v) t))))

-- what is wrong with what a text sends for numbers, for sets of attributes, and for the values of a range
abbrev pub IsNumbersReport : Bool → List ℕ → List ℕ → Range → List Remark → Type 0
IsNumbersReport ansi name text range remarks =
    (sent : List (List ℕ)) × AreSent text (values range) sent
    × AreNumbersRemarks ansi (record { name = name; text = text; tried = values range; sent = sent }) remarks

abbrev pub IsAttributesReport : EntryValue → List ℕ → List ℕ → List Remark → Type 0
IsAttributesReport v name text remarks =
    (sent : List (List ℕ)) × AreSent text (values ranges.Attributes) sent
    × AreAttributesRemarks v (record { name = name; text = text; tried = values ranges.Attributes; sent = sent }) remarks

abbrev pub IsRangeReport : EntryValue → List ℕ → List ℕ → Range → List Remark → Type 0
IsRangeReport v name text ranges.Attributes = IsAttributesReport v name text
IsRangeReport v name text range = IsNumbersReport (is_ansi_entry v) name text range

-- a text that is not tried is told as such
abbrev pub IsShortReport : EntryValue → List ℕ → List ℕ → Range → List Remark → Type 0
IsShortReport v name text range remarks =
    ((¬ IsShort text) × (remarks ≡ on_values name text findings.NotTried NoEvidence))
    ⊎ (IsShort text × IsRangeReport v name text range remarks)

-- a text that is no capability is told as such elsewhere
abbrev pub IsTriedReport : EntryValue → List ℕ → List ℕ → Range → List Remark → Type 0
IsTriedReport v name text range remarks =
    ((refused : CapRefused) × IsRefusal text refused × (remarks ≡ []))
    ⊎ (IsFaultless text × IsShortReport v name text range remarks)

-- there is no remark on a text that is not there
abbrev pub IsTriedReportOf : EntryValue → List ℕ → TextValue → Range → List Remark → Type 0
IsTriedReportOf v name (TextOf text) range remarks = IsTriedReport v name text range remarks
IsTriedReportOf v name text range remarks = remarks ≡ []

-- the text with a name
abbrev pub IsNamedTriedReport : EntryValue → ℕ → List ℕ × Range → List Remark → Type 0
IsNamedTriedReport v index (name, range) remarks =
    IsTriedReportOf v name (text_named v name) range remarks

-- all texts that are tried, in order
abbrev pub AreValueRemarks : EntryValue → List Remark → Type 0
AreValueRemarks v =
    AreReports (IsNamedTriedReport v) 0
    (tried_texts (number_named v (codes "lines")) (number_named v (codes "cols")) (number_named v (codes "colors")))
