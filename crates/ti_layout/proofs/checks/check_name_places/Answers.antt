use Rattle.std.proofs.Common.{length, sym, ◌∙◌}
use Rattle.std.proofs.lemmas.Result.{err_from_is_err_and}
use Rattle.ti_layout.specs.Checks.{name_place_checks}
use Rattle.ti_layout.proofs.VerdictLemmas.{opened_each}
use Rattle.ti_layout.proofs.checks.check_name_places.Goals as goal

pub loop-i-preserved : goal.loop-i-preserved
loop-i-preserved c =
    let t = c.args.table.now in
    sym (rw (← c.in_ok-check_name_place.ensures) at (opened_each (name_place_checks c.args.bytes.now t.bytes.now c.args.base t.end) (length c.args.bytes.now) c.args.from 2 c.args.count c.loop-i.i c.loop-i-test.true)) ∙ c.loop-i.invariant

pub returns-in_err-check_name_place : goal.returns-in_err-check_name_place
returns-in_err-check_name_place c =
    let t = c.args.table.now in
    let p = err_from_is_err_and c.from_residual.result c.from_residual.ensures.1 in
    rw (p.1, p.2) (sym (rw (← c.in_err-check_name_place.ensures) at (opened_each (name_place_checks c.args.bytes.now t.bytes.now c.args.base t.end) (length c.args.bytes.now) c.args.from 2 c.args.count c.loop-i.i c.loop-i-test.true)) ∙ c.loop-i.invariant)
