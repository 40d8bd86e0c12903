use Rattle.std.proofs.Common.{[], false, refl, true}
use Rattle.std.proofs.lemmas.Result.{IfErr-weaker, IfOk-weaker}
use Rattle.ti_tool.specs.Files.{before_findings}
use Rattle.ti_tool.specs.Results.{IsDueIn}
use Rattle.ti_tool.proofs.FileLemmas.{due_of_file, due_of_several}
use Rattle.ti_tool.proofs.NeedsMemoryLemmas.{due_from}
use Rattle.ti_tool.proofs.file_answer.answer_of_file.Goals as goal

pub returns-then-file : goal.returns-then-file
returns-then-file g c =
    let name = c.args.file.name.now in
    record {
      finds = c.answer_of_several.ensures.finds;
      due = IfOk-weaker c.answer_of_several.result _ _ (λ a due. rw c.if-file.true (due_of_several c.args.action.now name a.passed c.args.contents.now _ a.bytes.items c.in_ok-entry.ensures.found due)) c.answer_of_several.ensures.due;
      fault = IfErr-weaker c.answer_of_several.result _ _ (λ e due. rw c.if-file.true (due_from (IsDueIn (before_findings true name) c.args.action.now true c.args.contents.now) c.args.contents.now _ e c.in_ok-entry.ensures.found due)) c.answer_of_several.ensures.fault;
    }

pub returns : goal.returns
returns g c =
    let name = c.args.file.name.now in
    record {
      finds = c.answer_of_entry.ensures.finds;
      due = IfOk-weaker c.answer_of_entry.result _ _ (λ a due. rw c.if-file.false (due_of_file false c.args.action.now name a.passed c.args.contents.now _ [] a.bytes.items a.bytes.items refl c.in_ok-entry.ensures.found due refl)) c.answer_of_entry.ensures.due;
      fault = IfErr-weaker c.answer_of_entry.result _ _ (λ e due. rw c.if-file.false (due_from (IsDueIn [] c.args.action.now true c.args.contents.now) c.args.contents.now _ e c.in_ok-entry.ensures.found due)) c.answer_of_entry.ensures.fault;
    }
