-- What is wrong with an entry.
use Rattle.std.specs.Prelude.{◌≡◌, ◌⊎◌, ℕ, ◌↔◌, true, List, [], ◌∷◌, ◌++◌, length, map}
use Rattle.std.specs.List.{AllByRecursion}
use Rattle.ti_cap.specs.Refusal.{IsFaultless}
use Rattle.ti_words.specs.Value.{EntryValue}
use Rattle.ti_names.specs.declared.class.Class.{Class}
use Rattle.ti_names.specs.declared.class.Class.TheVariants as classes
use Rattle.ti_lint.specs.declared.variables.Variables.{Variables}
use Rattle.ti_lint.specs.Variables.{HasOnlyLetters, HasVariable, IsStored}
use Rattle.ti_lint.specs.declared.lint_options.LintOptions.{LintOptions}
use Rattle.ti_rules.specs.Actions.{action_remarks}
use Rattle.ti_rules.specs.Controls.{AreControlRemarks, HasNoControl, KeepsToTable, all_looks}
use Rattle.ti_rules.specs.Crashes.{AreDivisionRemarks}
use Rattle.ti_rules.specs.Keys.{AreKeyRemarks}
use Rattle.ti_rules.specs.Lines.{AreAll, InTurn}
use Rattle.ti_rules.specs.Subjects.{KnownText, known_texts}
use Rattle.ti_rules.specs.NameBytes.{AreNameByteRemarks}
use Rattle.ti_rules.specs.Names.{AreNameRemarks}
use Rattle.ti_rules.specs.Origins.{AreOriginRemarks}
use Rattle.ti_rules.specs.Pairs.{all_pair_remarks}
use Rattle.ti_rules.specs.Remarks.{Remark, TextRemark, with_name}
use Rattle.ti_rules.specs.Reported.{reported}
use Rattle.ti_rules.specs.Sequences.{AreSequenceRemarks}
use Rattle.ti_rules.specs.Texts.{IsJudged, usage_of}
use Rattle.ti_rules.specs.declared.usage.Usage.{Usage}
use Rattle.ti_rules.specs.Values.{AreValueRemarks}
use Rattle.ti_rules.specs.Whole.{whole_remarks}

-- ---- the texts

-- the judgement of a text by its use, under its name
abbrev pub IsUseReport : Usage → List ℕ → List ℕ → List Remark → Type 0
IsUseReport usage name text remarks =
    (judgement : List TextRemark) × IsJudged usage text judgement × (remarks ≡ map (with_name name text) judgement)

abbrev pub IsTextReport : Variables → KnownText → List Remark → Type 0
IsTextReport stored t = IsUseReport (usage_of stored t.name t.class) t.name t.text

-- ---- what they store into

-- what a text with parameters stores into, if it is a capability
abbrev pub StoresAs : Class → List ℕ → ℕ → Type 0
StoresAs (classes.Parameterized parameters) text which = IsFaultless text × IsStored text which
StoresAs class text which = ⊥

-- some text of a list stores into a variable
abbrev pub SomeStores : List KnownText → ℕ → Type 0
SomeStores [] which = ⊥
SomeStores (t ∷ rest) which = StoresAs t.class t.text which ⊎ SomeStores rest which

-- the variables into which some text stores that has parameters, and no bit for anything else
abbrev pub AreStored : List KnownText → Variables → Type 0
AreStored texts stored =
    HasOnlyLetters stored × ((which : ℕ) → HasVariable stored which ↔ SomeStores texts which)

-- the texts, each by what all of them store into
abbrev pub AreTextRemarks : EntryValue → List Remark → Type 0
AreTextRemarks v remarks =
    (stored : Variables) × AreStored (known_texts v) stored × AreAll (IsTextReport stored) (known_texts v) remarks

-- what is found, in order: of the texts as their capabilities are ordered, of texts by their values and by their control
-- sequences, of pairs of texts, of motions beside `cup`, of keys, of names and their bytes, of what programs do, of the whole entry that the bytes spell,
-- and of divisions
abbrev pub AreRemarks : List ℕ → EntryValue → List Remark → Type 0
AreRemarks bytes v =
    InTurn (AreTextRemarks v)
    (InTurn (AreValueRemarks v)
    (InTurn (AreSequenceRemarks v)
    (InTurn (λ all. all ≡ all_pair_remarks v)
    (InTurn (AreOriginRemarks v)
    (InTurn (AreKeyRemarks v)
    (InTurn (AreNameRemarks v.extended)
    (InTurn (AreNameByteRemarks v)
    (InTurn (λ all. all ≡ action_remarks v)
    (InTurn (λ all. all ≡ whole_remarks bytes v) (AreDivisionRemarks v))))))))))

-- these, and those on what strings make a terminal do, as far as the table of findings has them for these options
abbrev pub IsReportWith : List Remark → LintOptions → List ℕ → EntryValue → List Remark → Type 0
IsReportWith controls options bytes v remarks =
    (found : List Remark) × AreRemarks bytes v found × (remarks ≡ reported options.level (found ++ controls))

abbrev pub IsReport : LintOptions → List ℕ → EntryValue → List Remark → Type 0
IsReport options bytes v remarks =
    (controls : List Remark) × AreControlRemarks options v controls × IsReportWith controls options bytes v remarks

-- ---- laws

-- an entry has one report, but for what is found of what its strings make a terminal do
abbrev pub HasOneReport : Type 0
HasOneReport = (controls : List Remark) (options : LintOptions) (bytes : List ℕ) (v : EntryValue) (one other : List Remark)
    → IsReportWith controls options bytes v one → IsReportWith controls options bytes v other → one ≡ other

-- of the entry of a stranger: if nothing is reported of that, its strings keep to the table
abbrev pub OnlyTable : Type 0
OnlyTable = (options : LintOptions) (bytes : List ℕ) (v : EntryValue) (remarks : List Remark) → options.untrusted ≡ true
    → IsReport options bytes v remarks → HasNoControl remarks → AllByRecursion KeepsToTable (all_looks v)

-- how many remarks there are
abbrev pub IsFindingCount : LintOptions → List ℕ → EntryValue → ℕ → Type 0
IsFindingCount options bytes v count = (remarks : List Remark) × IsReport options bytes v remarks × (count ≡ length remarks)
