use Rattle.std.proofs.Common.{refl}
use Rattle.std.proofs.lemmas.Result.{err_from_is_err_and}
use Rattle.ti_tool.proofs.DidCallLemmas.{failed_call, wrote_call}
use Rattle.ti_tool.proofs.call.carry_out.Goals as goal

pub returns-in_err-answer-clause-did : goal.returns-in_err-answer-clause-did
returns-in_err-answer-clause-did g c =
    let p = err_from_is_err_and c.from_residual.result c.from_residual.ensures.1 in
    let (supply, read, fails) = c.in_err-answer.ensures.answered in
    rw (p.1, p.2) (failed_call c.args.action.now _ _ supply _ c.in_err-answer.field-0.0 read fails)

pub returns-in_err-write_result-clause-did : goal.returns-in_err-write_result-clause-did
returns-in_err-write_result-clause-did g c =
    let p = err_from_is_err_and c.from_residual-in_err-write_result.result c.from_residual-in_err-write_result.ensures.1 in
    let answer = c.in_ok-answer.answer in
    let (supply, read, due) = c.in_ok-answer.ensures.answered in
    let did = wrote_call c.args.action.now _ _ supply answer.passed _ _ answer.bytes.items c.as_slice.result.now c.write_result.result read due c.as_slice.ensures.value c.write_result.ensures.written
    c.write_result.ensures.fails in
    rw (p.1, p.2) (answer.passed, tt, rw c.in_err-write_result.was at did)

pub returns-clause-did : goal.returns-clause-did
returns-clause-did g c =
    let answer = c.in_ok-answer.answer in
    let (supply, read, due) = c.in_ok-answer.ensures.answered in
    let did = wrote_call c.args.action.now _ _ supply answer.passed _ _ answer.bytes.items c.as_slice.result.now c.write_result.result read due c.as_slice.ensures.value c.write_result.ensures.written
    c.write_result.ensures.fails in
    (answer.passed, refl, rw c.in_ok-write_result.was at did)
