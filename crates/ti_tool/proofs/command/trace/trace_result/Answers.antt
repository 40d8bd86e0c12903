use Rattle.std.proofs.lemmas.Result.{err_from_is_err_and}
use Rattle.ti_tool.specs.Traces.{IsTraced}
use Rattle.ti_tool.proofs.NeedsMemoryLemmas.{out_of_memory, traced_fails, traced_memory}
use Rattle.ti_tool.proofs.command.trace.trace_result.Goals as goal

pub returns-in_err-trace-in-Lines : goal.returns-in_err-trace-in-Lines
returns-in_err-trace-in-Lines g c =
    let p = err_from_is_err_and c.from_residual.result c.from_residual.ensures.1 in
    rw (p.1, p.2) (traced_fails c.args.parameters.now c.args.form c.args.input.now c.in_err-trace-in-Lines.field-0.0 c.in_err-trace-in-Lines.ensures.refused)

pub returns-in_err-trace_json-in-Json : goal.returns-in_err-trace_json-in-Json
returns-in_err-trace_json-in-Json g c =
    let p = err_from_is_err_and c.from_residual-in_err-trace_json-in-Json.result c.from_residual-in_err-trace_json-in-Json.ensures.1 in
    rw (p.1, p.2) (traced_fails c.args.parameters.now c.args.form c.args.input.now c.in_err-trace_json-in-Json.field-0.0 c.in_err-trace_json-in-Json.ensures.refused)

pub returns-in_err-as_line-in-Json : goal.returns-in_err-as_line-in-Json
returns-in_err-as_line-in-Json g c =
    out_of_memory c.from_residual-in_err-as_line-in-Json.result (λ v. v.items) (IsTraced c.args.parameters.now c.args.form c.args.input.now) c.from_residual-in_err-as_line-in-Json.ensures.1
    (traced_memory c.args.parameters.now c.args.form c.args.input.now c.in_ok-trace_json-in-Json.ensures.accepted)
