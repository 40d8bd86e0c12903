use Rattle.std.proofs.Common.{refl}
use Rattle.std.proofs.lemmas.Result.{err_from_is_err_and}
use Rattle.ti_tool.specs.FileRuns.{Contents, Unread}
use Rattle.ti_tool.proofs.ReadsIntoLemmas.{ReadsInto-empty, at_end}
use Rattle.ti_tool.proofs.call.answer_of_notation.Goals as goal

pub returns-in_err-read_up_to-clause-answered : goal.returns-in_err-read_up_to-clause-answered
returns-in_err-read_up_to-clause-answered g c =
    let p = err_from_is_err_and c.from_residual.result c.from_residual.ensures.1 in
    let (bytes, took, is) = c.read_up_to.ensures.taken in
    rw (p.1, p.2) (Unread, (bytes, took), refl)

pub returns-in_err-bytes-clause-answered : goal.returns-in_err-bytes-clause-answered
returns-in_err-bytes-clause-answered g c =
    let p = err_from_is_err_and c.from_residual-in_err-bytes.result c.from_residual-in_err-bytes.ensures.1 in
    let took = ReadsInto-empty _ _ _ _ c.as_mut_slice.result.now c.read_up_to.ensures.taken c.new-input.ensures c.as_mut_slice.ensures.value in
    let at = at_end _ _ c.read_up_to.new.bytes.items c.as_mut_slice.result.now c.as_mut_slice.ensures.value c.in_ok-read_up_to.ensures.end in
    rw (p.1, p.2) (Contents c.as_mut_slice.result.now, (took, at), c.in_err-bytes.ensures)

pub returns-clause-answered : goal.returns-clause-answered
returns-clause-answered g c =
    let took = ReadsInto-empty _ _ _ _ c.as_mut_slice.result.now c.read_up_to.ensures.taken c.new-input.ensures c.as_mut_slice.ensures.value in
    let at = at_end _ _ c.read_up_to.new.bytes.items c.as_mut_slice.result.now c.as_mut_slice.ensures.value c.in_ok-read_up_to.ensures.end in
    (Contents c.as_mut_slice.result.now, (took, at), c.in_ok-bytes.ensures)
