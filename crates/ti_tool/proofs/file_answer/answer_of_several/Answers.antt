use Rattle.std.proofs.Common.{◌≡◌, arith, true}
use Rattle.std.proofs.lemmas.Grind.{common_steps}
use Rattle.ti_tool.proofs.FileLemmas.{due_as_it_is, due_of_listing, is_nameless}
use Rattle.ti_tool.proofs.file_answer.answer_of_several.Goals as goal

pub returns-in_ok-listing_of_file-in-Show-clause-due : goal.returns-in_ok-listing_of_file-in-Show-clause-due
returns-in_ok-listing_of_file-in-Show-clause-due g c =
    due_of_listing c.args.action.now c.in-Show.options c.args.name.now c.in_ok-listing_of_file-in-Show.field-0.passed c.args.contents.now c.args.entry.now
    c.in_ok-listing_of_file-in-Show.field-0.bytes.items c.in-Show.is c.in_ok-listing_of_file-in-Show.ensures.due

pub returns-in-Expand-clause-due : goal.returns-in-Expand-clause-due
returns-in-Expand-clause-due g c =
    let nameless : is_nameless c.args.action.now ≡ true = grind (arith, common_steps) in
    due_as_it_is (λ a. a.passed) (λ a. a.bytes.items) c.answer_of_entry.result c.args.action.now c.args.name.now c.args.contents.now c.args.entry.now nameless c.answer_of_entry.ensures.due
