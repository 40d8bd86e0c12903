-- The documents of JSON on an entry, and those of one of several files.
use Rattle.std.specs.List.{list_all}
use Rattle.std.specs.Prelude.{◌≡◌, ◌==◌, ℕ, Bool, true, List, ◌++◌, Result, Ok, Err, codes, length}
use Rattle.ti_names.specs.AllNames.{front}
use Rattle.ti_words.specs.Value.{EntryValue}
use Rattle.ti_line.specs.declared.options.Document.{Document}
use Rattle.ti_line.specs.declared.options.Document.TheVariants as documents
use Rattle.ti_lint.specs.declared.lint_options.LintOptions.{LintOptions}
use Rattle.ti_escape.specs.Laws.{is_printable}
use Rattle.ti_forms.specs.Blocks.{HaveObjects}
use Rattle.ti_rules.specs.Remarks.{Remark}
use Rattle.ti_rules.specs.Reports.{IsReport}
use Rattle.ti_tool.specs.declared.fault.ToolFault.{ToolFault}
use Rattle.ti_tool.specs.Verdicts.{IsVerdict}
use Rattle.ti_tool.specs.Voice.{IsPage}

-- a listing and verdicts are rows
abbrev pub IsOfRows : Document → Type 0
IsOfRows (documents.Findings options) = ⊥
IsOfRows document = Unit {0}

-- whether a document of rows finds nothing wrong: verdicts say so of texts
abbrev pub IsVerdictOf : Document → Bool → EntryValue → Type 0
IsVerdictOf documents.Listing passed v = Unit {0}
IsVerdictOf (documents.Verdicts which) passed v = IsVerdict which v passed
IsVerdictOf (documents.Findings options) passed v = ⊥

-- the text of findings on an entry that the bytes spell: an object for each remark; nothing is wrong if there is none
pub record IsTextOfFindings (options : LintOptions) (passed : Bool) (input : List ℕ) (v : EntryValue) (text : List ℕ) : Type 0 where
  pub remarks : List Remark
  pub report : IsReport options input v remarks
  pub passed_is : passed ≡ (length remarks == 0)
  pub told : HaveObjects remarks text
  pub printable : list_all is_printable text ≡ true

-- the text of a document; rows show what the objects of rows say
abbrev pub IsTextOf : Document → Bool → List ℕ → EntryValue → List ℕ → Type 0
IsTextOf (documents.Findings options) passed input v text = IsTextOfFindings options passed input v text
IsTextOf document passed input v text = IsVerdictOf document passed v × (list_all is_printable text ≡ true)

-- the document in a line
abbrev pub IsDocument : Document → Bool → List ℕ → EntryValue → Result (List ℕ) ToolFault → Type 0
IsDocument document passed input v (Ok out) = (text : List ℕ) × IsTextOf document passed input v text × (out ≡ text ++ codes "\n")
IsDocument document passed input v (Err e) = ⊥

-- only verdicts and findings find that something is wrong
abbrev pub FindsIn : Document → Bool → Type 0
FindsIn documents.Listing passed = passed ≡ true
FindsIn (documents.Verdicts which) passed = Unit {0}
FindsIn (documents.Findings options) passed = Unit {0}

-- findings without their newline stand in a page; what stands around them is shown by rows
pub record StandsIn (line out : List ℕ) : Type 0 where
  pub start : List ℕ
  pub end : List ℕ
  pub out_is : out ≡ start ++ (front line ++ end)
  pub page : IsPage out

abbrev pub IsInObject : Document → List ℕ → List ℕ → List ℕ → Type 0
IsInObject (documents.Findings options) name line out = StandsIn line out
IsInObject document name line out = IsPage out

-- the line of the document on the entry of a file
abbrev pub IsDocumentOfFile : Document → List ℕ → Bool → List ℕ → EntryValue → List ℕ → Type 0
IsDocumentOfFile document name passed input v out =
    (plain : List ℕ) × IsDocument document passed input v (Ok plain) × IsInObject document name plain out
