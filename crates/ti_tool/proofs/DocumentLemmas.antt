-- The line of a document, alone and in the object of its file.
use Rattle.std.proofs.Common.{◌≡◌, ◌==◌, ◌∙◌, ◌++◌, ◌-◌, ℕ, Bool, true, List, ap, append_assoc, arith, length, length-append, refl, sym, take}
use Rattle.std.specs.List.{list_all}
use Rattle.std.specs.Prelude.{codes}
use Rattle.std.proofs.Math.Seq.{take-append_seam}
use Rattle.std.proofs.lemmas.Bool.{and_parts}
use Rattle.std.proofs.lemmas.List.Folds.{list_all-append}
use Rattle.ti_escape.specs.Laws.{is_printable}
use Rattle.ti_lint.specs.declared.lint_options.LintOptions.{LintOptions}
use Rattle.ti_line.specs.declared.options.Document.{Document}
use Rattle.ti_line.specs.declared.options.Document.TheVariants as documents
use Rattle.ti_names.specs.AllNames.{front}
use Rattle.ti_words.specs.Value.{EntryValue}
use Rattle.ti_sink.proofs.PrintedLemmas.{rest_after}
use Rattle.ti_sink.specs.Printed.{StaysFront}
use Rattle.ti_forms.specs.Blocks.{HaveObjects}
use Rattle.ti_rules.specs.Lines.{Adds}
use Rattle.ti_rules.specs.Remarks.{Remark}
use Rattle.ti_rules.specs.Reports.{IsReport}
use Rattle.ti_tool.specs.Documents.{IsDocumentOfFile, IsInObject, IsTextOf, IsVerdictOf, StandsIn}
use Rattle.ti_tool.specs.Voice.{IsPage}
use Rattle.ti_tool.proofs.PrintableLemmas.{line, same_page}

-- a line without its newline is its text
pub without_newline : (text : List ℕ) → front (text ++ codes "\n") ≡ text
without_newline text =
    let len : length (text ++ codes "\n") - 1 ≡ length text = omega (arith, length-append text (codes "\n")) in
    ap (λ n. take n (text ++ codes "\n")) len ∙ take-append_seam text (codes "\n")

pub rows_text : (document : Document) (passed : Bool) (input : List ℕ) (v : EntryValue) (text : List ℕ) → IsVerdictOf document passed v → list_all is_printable text ≡ true → IsTextOf document passed input v text
rows_text documents.Listing passed input v text verdict printable = (verdict, printable)
rows_text (documents.Verdicts which) passed input v text verdict printable = (verdict, printable)
rows_text (documents.Findings options) passed input v text verdict printable = absurd verdict

in_object : (document : Document) (passed : Bool) (v : EntryValue) (name plain out : List ℕ) → IsVerdictOf document passed v → IsPage out → IsInObject document name plain out
in_object documents.Listing passed v name plain out verdict page = page
in_object (documents.Verdicts which) passed v name plain out verdict page = page
in_object (documents.Findings options) passed v name plain out verdict page = absurd verdict

pub document_of_file : (document : Document) (name : List ℕ) (passed : Bool) (input : List ℕ) (v : EntryValue) (text out : List ℕ) → IsVerdictOf document passed v → list_all is_printable text ≡ true
    → out ≡ text ++ codes "\n" → IsDocumentOfFile document name passed input v out
document_of_file document name passed input v text out verdict printable is =
    (out, (text, rows_text document passed input v text verdict printable, is), in_object document passed v name out out verdict (same_page out _ is (line text printable)))

-- ---- findings in the object of their file

-- what stands in a document can be printed if that can
within : (before text more document : List ℕ) → document ≡ before ++ text ++ more → list_all is_printable document ≡ true → list_all is_printable text ≡ true
within before text more document is printable =
    let whole = sym (list_all-append is_printable (before ++ text) more) ∙ ap (list_all is_printable) (sym is) ∙ printable in
    let first = (and_parts (list_all is_printable (before ++ text)) (list_all is_printable more) whole).0 in
    (and_parts (list_all is_printable before) (list_all is_printable text) (sym (list_all-append is_printable before text) ∙ first)).1

stands : (before text more document out : List ℕ) → document ≡ before ++ text ++ more → list_all is_printable document ≡ true → out ≡ document ++ codes "\n" → StandsIn (text ++ codes "\n") out
stands before text more document out is printable ends = record {
  start = before;
  end = more ++ codes "\n";
  out_is = ends ∙ ap (λ l. l ++ codes "\n") is ∙ append_assoc (before ++ text) more (codes "\n") ∙ append_assoc before text (more ++ codes "\n")
      ∙ ap (λ l. before ++ (l ++ (more ++ codes "\n"))) (sym (without_newline text));
  page = same_page out _ ends (line document printable);
}

pub findings_of_file : (options : LintOptions) (name : List ℕ) (passed : Bool) (input : List ℕ) (v : EntryValue) (remarks : List Remark) (before told document out : List ℕ) → IsReport options input v remarks
    → passed ≡ (length remarks == 0) → Adds (HaveObjects remarks) before told → StaysFront told document → list_all is_printable document ≡ true → out ≡ document ++ codes "\n"
    → IsDocumentOfFile (documents.Findings options) name passed input v out
findings_of_file options name passed input v remarks before told document out report passed_is (text, have, is) front printable ends =
    let (more, joined) = rest_after told document front in
    let whole = joined ∙ ap (λ l. l ++ more) is in
    let of : IsTextOf (documents.Findings options) passed input v text = record { remarks = remarks; report = report; passed_is = passed_is; told = have; printable = within before text more document whole printable } in
    (text ++ codes "\n", (text, of, refl), stands before text more document out whole printable ends)
