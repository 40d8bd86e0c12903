-- What is told of a list of remarks: lines, with a block for each, and JSON, with an object for each. What these say beside the subject
-- and the word is shown by rows.
use Rattle.std.specs.Prelude.{◌≡◌, ℕ, false, true, List, ◌++◌, codes}
use Rattle.ti_words.specs.Value.{EntryValue}
use Rattle.ti_lint.specs.declared.lint_options.LintOptions.{LintOptions}
use Rattle.ti_escape.specs.Notation.{label_notation}
use Rattle.ti_escape.specs.declared.color.Color.{Color}
use Rattle.ti_sink.specs.Pages.{Paged, as_page, is_page}
use Rattle.ti_sink.specs.Printed.{Printed, first_member}
use Rattle.ti_rules.specs.Findings.{finding_word}
use Rattle.ti_rules.specs.Lines.{Adds, AreAll}
use Rattle.ti_rules.specs.Remarks.{About, OfEntry, OfName, OfText, OfTwo, Remark}
use Rattle.ti_rules.specs.Reports.{IsReport}

-- ---- lines

-- what a remark is about, by its name
abbrev pub subject : About → List ℕ
subject OfEntry = codes "entry"
subject (OfName name) = label_notation name
subject (OfText name text) = label_notation name
subject (OfTwo name text other its) = label_notation name

-- the block of a remark: its subject in a line, after what stands before it; its word; and whatever stands below the subject and after
-- the word
abbrev pub IsBlock : List ℕ → Remark → List ℕ → Type 0
IsBlock prefix r block =
    (below : List ℕ) × (rest : List ℕ)
    × (block ≡ as_page prefix ++ (subject r.about ++ (codes "\n" ++ (below ++ (as_page (finding_word r.finding) ++ rest)))))

-- one for each remark, in order
abbrev pub AreBlocks : List ℕ → List Remark → List ℕ → Type 0
AreBlocks prefix remarks lines = AreAll (IsBlock prefix) remarks lines

-- the lines of all remarks on an entry, with something before the first line of each: a page with a block for each
abbrev pub AreLines : LintOptions → Color → List ℕ → List ℕ → EntryValue → List ℕ → Type 0
AreLines options color before bytes v lines =
    (remarks : List Remark) × IsReport options bytes v remarks × AreBlocks before remarks lines × (is_page color lines ≡ true)

-- unless memory was refused, lines of a kind come after what was there
pub record WritesSome (Are : List ℕ → Type 0) (old new : Paged) : Type 0 where
  pub kept : new.is_refused ≡ false → old.is_refused ≡ false
  pub added : new.is_refused ≡ false → Adds Are old.bytes new.bytes

-- ---- JSON

-- the object of a remark: its word is the first member; a comma may stand before it
abbrev pub IsObject : Remark → List ℕ → Type 0
IsObject r object =
    (comma : List ℕ) × (more : List ℕ) × (object ≡ comma ++ (first_member (codes "finding") (finding_word r.finding) ++ more))

-- one for each remark, in order
abbrev pub AreObjects : List Remark → List ℕ → Type 0
AreObjects remarks text = AreAll IsObject remarks text

-- these stand in a text
abbrev pub HaveObjects : List Remark → List ℕ → Type 0
HaveObjects remarks text =
    (start : List ℕ) × (objects : List ℕ) × (end : List ℕ) × AreObjects remarks objects × (text ≡ start ++ (objects ++ end))

-- unless memory was refused or a call did not fit, text of a kind comes after what was there
pub record PrintsSome (Are : List ℕ → Type 0) (old new : Printed) : Type 0 where
  pub fits : new.is_misused ≡ false → old.is_misused ≡ false
  pub kept : new.is_refused ≡ false → old.is_refused ≡ false
  pub added : new.is_refused ≡ false → new.is_misused ≡ false → Adds Are old.bytes new.bytes
