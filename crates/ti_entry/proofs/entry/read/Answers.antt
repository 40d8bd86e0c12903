use Rattle.std.proofs.lemmas.Result.{err_from_is_err_and}
use Rattle.ti_entry.proofs.ReadLemmas.{has_failed}
use Rattle.ti_entry.proofs.WholeStageLemmas.{stands_new}
use Rattle.ti_entry.proofs.entry.read.Goals as goal

pub advance-requires : goal.advance-requires
advance-requires c = rw c.new-stage.ensures (stands_new c.args.bytes.now)

pub returns-in_err-advance : goal.returns-in_err-advance
returns-in_err-advance c =
    let p = err_from_is_err_and c.from_residual.result c.from_residual.ensures.1 in
    rw (p.1, p.2) (has_failed c.args.bytes.now c.in_err-advance.field-0.0 c.in_err-advance.ensures.failed)
