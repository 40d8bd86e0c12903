use Rattle.std.proofs.Common.{inl, inr, refl}
use Rattle.std.proofs.lemmas.Result.{err_from_is_err_and}
use Rattle.ti_tool.specs.FileRuns.{Contents}
use Rattle.ti_tool.proofs.DidCallLemmas.{entry_answered, keeps_all, stopped}
use Rattle.ti_tool.proofs.call.answer_of_kept.Goals as goal

pub returns-in_err-read_fronted-clause-answered : goal.returns-in_err-read_fronted-clause-answered
returns-in_err-read_fronted-clause-answered g c =
    let p = err_from_is_err_and c.from_residual.result c.from_residual.ensures.1 in
    rw (p.1, p.2) (stopped c.args.action.now _ _ _ c.in_err-read_fronted.field-0.0 c.read_fronted.ensures.fed c.in_err-read_fronted.ensures.refused)

pub returns-in_err-entry-clause-answered : goal.returns-in_err-entry-clause-answered
returns-in_err-entry-clause-answered g c =
    let p = err_from_is_err_and c.from_residual-in_err-entry.result c.from_residual-in_err-entry.ensures.1 in
    let whole = keeps_all _ _ _ c.read_fronted.ensures.fed c.in_ok-read_fronted.ensures.end c.in_ok-read_fronted.ensures.accepted in
    rw (p.1, p.2)
    (Contents c.read_fronted.new.kept.kept, (whole.read, inr whole.end), inr (inl (c.in_err-entry.field-0.0, (c.in_err-entry.ensures.read whole.unrefused).refused, refl)))

pub returns-clause-answered : goal.returns-clause-answered
returns-clause-answered g c =
    let whole = keeps_all _ _ _ c.read_fronted.ensures.fed c.in_ok-read_fronted.ensures.end c.in_ok-read_fronted.ensures.accepted in (
      Contents c.read_fronted.new.kept.kept,
      (whole.read, inr whole.end),
      entry_answered (λ a. a.passed) (λ a. a.bytes.items) c.answer_of_entry.result c.args.action.now c.read_fronted.new.kept.kept c.bytes-bytes.result.now c.in_ok-entry.entry
          (c.in_ok-entry.ensures.read whole.unrefused).found c.bytes-bytes.ensures c.answer_of_entry.ensures.due c.answer_of_entry.ensures.fault,
    )
