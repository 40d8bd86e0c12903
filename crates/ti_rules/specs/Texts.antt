-- What is wrong with a text, by how it is used.
use Rattle.std.specs.Prelude.{Option, Some, None, nat_lt, ◌≡◌, ◌≢◌, ◌⊎◌, ◌↔◌, ℕ, List, [], ◌∷◌, ◌≤◌, ◌%◌, ◌==◌, ◌&&◌, ◌||◌, Bool, AllPairs, Contains, codes, if◌then◌else◌, length}
use Rattle.std.specs.Str.{bytes_eq}
use Rattle.ti_cap.specs.declared.parameter_set.ParameterSet.{ParameterSet}
use Rattle.ti_cap.specs.Sources.{Has, IsNamed}
use Rattle.ti_cap.specs.declared.language.CapRefused.{CapRefused}
use Rattle.ti_cap.specs.Refusal.{IsFaultless, IsRefusal}
use Rattle.ti_names.specs.declared.class.Class.{Class}
use Rattle.ti_names.specs.declared.class.Class.TheVariants as classes
use Rattle.ti_lint.specs.declared.expected.Expected.{Expected}
use Rattle.ti_lint.specs.declared.token_finding.TokenFinding.{TokenFinding}
use Rattle.ti_lint.specs.declared.token_finding.TokenFinding.TheVariants.{StackUnderflow, TermcapParameter, ParameterRange, RepeatedIncrement, UnsetVariable, StackResidue, UnusedIncrement, LateIncrement, DeadStore, OperandType, NoEffect, ConstantCondition, RepeatedCondition}
use Rattle.ti_lint.specs.declared.placed_finding.PlacedFinding.{PlacedFinding}
use Rattle.ti_lint.specs.declared.variables.Variables.{Variables}
use Rattle.ti_lint.specs.Found.{IsFoundAt, Precedes}
use Rattle.ti_pad.specs.Delays.{delay_at, total_delay}
use Rattle.ti_lint.specs.Plain.{IsMeantToExpand}
use Rattle.ti_lint.specs.TextParameters.{text_parameters}
use Rattle.ti_rules.specs.declared.usage.Usage.{Usage}
use Rattle.ti_rules.specs.declared.finding.Finding.{Finding}
use Rattle.ti_rules.specs.declared.finding.Finding.TheVariants as findings
use Rattle.ti_rules.specs.Remarks.{Evidence, Last, NoEvidence, Parameters, TextRemark, placed, unplaced}
use Rattle.ti_rules.specs.Constants.{IsTestsReport}
use Rattle.ti_rules.specs.Lines.{AreReports, InTurn}
use Rattle.ti_rules.specs.Marks.{AreMarked, ArePlacesFrom, ArePlacesOf, IsSought, first_place}
use Rattle.ti_rules.specs.declared.marks.Sought.{Sought}
use Rattle.ti_rules.specs.declared.marks.Sought.TheVariants.{Percents, Mark, FalseMark}

-- ---- how a text is used

-- texts that may leave out parameters: attributes that a terminal lacks, and motions by one place
abbrev pub may_leave_out : List ℕ → Bool
may_leave_out name =
    bytes_eq name (codes "sgr") || bytes_eq name (codes "sgr1") || bytes_eq name (codes "mhpa") || bytes_eq name (codes "mcub")
    || bytes_eq name (codes "mcud") || bytes_eq name (codes "mcuf") || bytes_eq name (codes "mcuu")

-- a text with a name, of a class, in an entry whose texts store into these variables; the parameter of `tsl` is the column of a
-- status line, and `acsc` is a list of pairs
abbrev pub usage_of : Variables → List ℕ → Class → Usage
usage_of stored name class = record {
  class = class;
  texts = text_parameters name;
  stored = stored;
  may_leave_out = may_leave_out name;
  has_column = bytes_eq name (codes "tsl");
  has_pairs = bytes_eq name (codes "acsc");
}

-- what the findings of such a text with parameters go by
abbrev pub expected_in : Usage → ℕ → Expected
expected_in usage parameters = record { parameters = parameters; texts = usage.texts; stored = usage.stored }

-- ---- a capability

-- the findings of tokens, in the order in which they are told
unfoldable pub all_findings : List TokenFinding
all_findings =
    StackUnderflow ∷ TermcapParameter ∷ StackResidue ∷ ParameterRange ∷ RepeatedIncrement ∷ UnusedIncrement
    ∷ LateIncrement ∷ UnsetVariable ∷ DeadStore ∷ OperandType ∷ NoEffect ∷ ConstantCondition ∷ RepeatedCondition ∷ []

-- all findings of a capability, in order of their places
pub record AreFound (text : List ℕ) (expected : Expected) (founds : List PlacedFinding) : Type 0 where
  pub exact : (one : PlacedFinding) → Contains founds one ↔ IsFoundAt text expected one
  pub order : AllPairs Precedes founds

-- a parameter beyond the last one comes with that
abbrev pub evidence_of : TokenFinding → ℕ → Evidence
evidence_of ParameterRange parameters = Last parameters
evidence_of finding parameters = NoEvidence

-- a finding, at its places; but a test of constants is told alone, with its value
abbrev pub IsFindingReport : List ℕ → ℕ → List PlacedFinding → ℕ → TokenFinding → List TextRemark → Type 0
IsFindingReport text parameters founds index finding remarks =
    ((finding ≡ ConstantCondition) × IsTestsReport text remarks)
    ⊎ ((finding ≢ ConstantCondition) × (places : List ℕ) × ArePlacesOf finding founds places
    × (remarks ≡ placed places (findings.Token finding) (evidence_of finding parameters)))

-- the parameters that the text has and no path pushes
abbrev pub AreUnused : List ℕ → ℕ → ParameterSet → Type 0
AreUnused text parameters unused =
    (which : ℕ) → Has unused which ↔ ((1 ≤ which) × (which ≤ 9) × (which ≤ parameters) × ¬ IsNamed text which)

-- they are told if there are some, if the text may not leave them out, and if it takes none from the empty stack
abbrev pub unused_finding : Usage → Finding
unused_finding usage = if usage.has_column then findings.UnusedColumn else findings.UnusedParameter

abbrev pub unused_remarks : Usage → ParameterSet → List ℕ → List TextRemark
unused_remarks usage unused (place ∷ places) = []
unused_remarks usage unused [] =
    if unused.mask == 0 || usage.may_leave_out then [] else unplaced (unused_finding usage) (Parameters unused)

abbrev pub IsUnusedReport : Usage → List ℕ → ℕ → List PlacedFinding → List TextRemark → Type 0
IsUnusedReport usage text parameters founds remarks =
    (unused : ParameterSet) × (places : List ℕ) × AreUnused text parameters unused × ArePlacesOf TermcapParameter founds places
    × (remarks ≡ unused_remarks usage unused places)

-- the remarks of all findings, and then of the parameters that are left out
abbrev pub IsFindingsReport : Usage → ℕ → List ℕ → List TextRemark → Type 0
IsFindingsReport usage parameters text remarks =
    (founds : List PlacedFinding) × AreFound text (expected_in usage parameters) founds
    × InTurn (AreReports (IsFindingReport text parameters founds) 0 all_findings)
    (IsUnusedReport usage text parameters founds) remarks

-- a capability: its fault, or else what is wrong with its tokens
abbrev pub IsCapabilityReport : Usage → ℕ → List ℕ → List TextRemark → Type 0
IsCapabilityReport usage parameters text remarks =
    ((refused : CapRefused) × IsRefusal text refused
    × (remarks ≡ placed (refused.place ∷ []) (findings.Malformed refused.fault) NoEvidence))
    ⊎ (IsFaultless text × IsFindingsReport usage parameters text remarks)

-- ---- other texts

-- the tokens that are meant to be expanded, if the text is a capability
abbrev pub AreEscapes : List ℕ → List ℕ → Type 0
AreEscapes text places =
    ((refused : CapRefused) × IsRefusal text refused × (places ≡ []))
    ⊎ (IsFaultless text × AreMarked (λ spot token. IsMeantToExpand token) text places)

-- the remarks on the places at which something stands that should not
abbrev pub IsPlacesReport : Sought → Finding → List ℕ → List TextRemark → Type 0
IsPlacesReport sought finding text remarks =
    (places : List ℕ) × ArePlacesFrom (IsSought text sought) 0 places × (remarks ≡ placed places finding NoEvidence)

-- what only an expansion takes away
abbrev pub IsPercentReport : List ℕ → List TextRemark → Type 0
IsPercentReport = IsPlacesReport Percents findings.UninterpretedPercent

abbrev pub IsEscapeReport : List ℕ → List TextRemark → Type 0
IsEscapeReport text remarks =
    (places : List ℕ) × AreEscapes text places × (remarks ≡ placed places findings.UninterpretedEscape NoEvidence)

-- a text that is sent as it stands
abbrev pub IsPlainReport : List ℕ → List TextRemark → Type 0
IsPlainReport text =
    InTurn (IsEscapeReport text)
    (InTurn (IsPercentReport text) (IsPlacesReport FalseMark findings.FalseMark text))

-- what a key sends
abbrev pub empty_key : List ℕ → List TextRemark
empty_key text = if length text == 0 then unplaced findings.EmptyKey NoEvidence else []

abbrev pub IsKeyReport : List ℕ → List TextRemark → Type 0
IsKeyReport text =
    InTurn (λ all. all ≡ empty_key text) (InTurn (IsPercentReport text) (IsPlacesReport Mark findings.MarkInKey text))

-- a list of pairs
abbrev pub half_paired : Bool → List ℕ → List TextRemark
half_paired has_pairs text = if has_pairs && (length text % 2 == 1) then unplaced findings.HalfPaired NoEvidence else []

-- ---- delays, in tenths of a millisecond

-- a mark of more than a second for each affected line
abbrev pub is_long : List ℕ → Bool
is_long left = nat_lt 10000 (delay_at left)

-- marks of more than two seconds together
abbrev pub are_long : List ℕ → Bool
are_long text = nat_lt 20000 (total_delay text)

-- the first that is long, or all of them if they are long together
abbrev pub on_delays : Option ℕ → List ℕ → List TextRemark
on_delays (Some place) text = placed (place ∷ []) findings.LongDelay NoEvidence
on_delays None text = if are_long text then unplaced findings.LongDelays NoEvidence else []

abbrev pub delay_remarks : List ℕ → List TextRemark
delay_remarks text = on_delays (first_place is_long text) text

-- ---- the judgement of a text

abbrev pub IsJudgedAs : Class → Usage → List ℕ → List TextRemark → Type 0
IsJudgedAs (classes.Parameterized parameters) usage text remarks =
    InTurn (IsCapabilityReport usage parameters text) (λ all. all ≡ delay_remarks text) remarks
IsJudgedAs classes.Plain usage text remarks = InTurn (IsPlainReport text) (λ all. all ≡ delay_remarks text) remarks
IsJudgedAs classes.Key usage text remarks = IsKeyReport text remarks
IsJudgedAs classes.List usage text remarks = remarks ≡ half_paired usage.has_pairs text
IsJudgedAs class usage text remarks = remarks ≡ []

-- by its use and its bytes alone
abbrev pub IsJudged : Usage → List ℕ → List TextRemark → Type 0
IsJudged usage text remarks = IsJudgedAs usage.class usage text remarks
