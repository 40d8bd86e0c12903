use Rattle.std.proofs.Common.{length, sym, ◌∙◌}
use Rattle.std.proofs.lemmas.Result.{err_from_is_err_and}
use Rattle.ti_layout.specs.Refusal.{item_check, item_size}
use Rattle.ti_layout.proofs.VerdictLemmas.{opened}
use Rattle.ti_layout.proofs.section.SectionItems.check.Goals as goal

pub loop-i-preserved : goal.loop-i-preserved
loop-i-preserved c =
    let it = c.args.self in
    let one = rw c.size.ensures.value at c.in_ok-check.ensures in
    sym (rw (← one) at (opened (item_check c.args.bytes.now it.item) (length c.args.bytes.now) it.at (item_size it.item) c.args.count c.loop-i.i c.loop-i-test.true)) ∙ c.loop-i.invariant

pub returns-in_err-check : goal.returns-in_err-check
returns-in_err-check c =
    let it = c.args.self in
    let p = err_from_is_err_and c.from_residual.result c.from_residual.ensures.1 in
    let one = rw c.size.ensures.value at c.in_err-check.ensures in
    rw (p.1, p.2) (sym (rw (← one) at (opened (item_check c.args.bytes.now it.item) (length c.args.bytes.now) it.at (item_size it.item) c.args.count c.loop-i.i c.loop-i-test.true)) ∙ c.loop-i.invariant)
