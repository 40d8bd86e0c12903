use Rattle.std.proofs.Common.{◌∙◌, [], refl}
use Rattle.ti_tool.specs.Streams.{streams}
use Rattle.ti_tool.proofs.DidCallLemmas.{fault_leads, output_leads}
use Rattle.ti_tool.proofs.ToldLemmas.{unsummarized}
use Rattle.ti_tool.proofs.program.run_input.Goals as goal

pub returns-in-Ok-clause-ran : goal.returns-in-Ok-clause-ran
returns-in-Ok-clause-ran g c =
    let (supply, read, due) = c.in-Ok.ensures.answered in
    let left = g.R.Read.remaining c.answer_of_input-answer.new.reader in
    let held = g.W.Write.contents c.deliver_last-status.new.output in
    let leads = output_leads c.args.extras.has_advice c.args.action.now supply c.in-Ok.answer.passed c.in-Ok.answer.bytes.items c.as_slice.result.now [] c.status-status.result due c.in-Ok.ensures.finds c.as_slice.ensures.value refl c.status-status.ensures in
    (supply, streams left held (g.E.Write.contents c.deliver_last-status.new.errors), read, (c.as_slice.result.now, [], c.status-status.result, leads, c.deliver_last-status.ensures.delivered), c.report_contents.ensures.told left held)

pub returns-in-Ok-clause-silent : goal.returns-in-Ok-clause-silent
returns-in-Ok-clause-silent g c = λ unwanted low. c.report_contents.ensures.silent unwanted ∙ c.deliver_last-status.ensures.silent low

pub returns-in-Err-clause-ran : goal.returns-in-Err-clause-ran
returns-in-Err-clause-ran g c =
    let (supply, read, fails) = c.in-Err.ensures.answered in
    let told = streams (g.R.Read.remaining c.answer_of_input-answer.new.reader) (g.W.Write.contents c.deliver_last.new.output) (g.E.Write.contents c.deliver_last.new.errors) in
    let ending = c.line_alone-ending in
    let leads = fault_leads c.args.extras.has_advice c.args.action.now supply c.in-Err.fault c.answer_line-line.result.items ending.result.bytes.now ending.result.line.now ending.result.status fails c.answer_line-line.ensures
    (ending.ensures.line ∙ c.as_slice-in-Err.ensures.value) ending.ensures.nothing (ending.ensures.status ∙ c.status.ensures) in
    (supply, told, read, (ending.result.bytes.now, ending.result.line.now, ending.result.status, leads, c.deliver_last.ensures.delivered), unsummarized c.args.extras.summary told)
