use Rattle.std.proofs.lemmas.Result.{IfOk-weaker}
use Rattle.ti_line.specs.CommandLine.{cap_app, convert_app, diff_app, expand_app, trace_app}
use Rattle.ti_line.proofs.command.program.Goals as goal

pub returns : goal.returns
returns c =
    let compared = c.with_made-compared.ensures _ diff_app c.first_commands.ensures c.diff.ensures in
    let expanded = c.with_made-expanded.ensures _ expand_app compared c.expand.ensures in
    let converted = c.with_made-converted.ensures _ convert_app expanded c.convert.ensures in
    let capped = c.with_made-capped.ensures _ cap_app converted c.cap.ensures in
    IfOk-weaker c.with_made.result _ _ (λ r is. is.0) (c.with_made.ensures _ trace_app capped c.trace.ensures)
