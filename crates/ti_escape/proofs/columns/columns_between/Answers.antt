use Rattle.std.proofs.Common.{◌-◌, arith, drop, refl, take}
use Rattle.ti_escape.proofs.ColumnLemmas.{column-between}
use Rattle.ti_escape.proofs.columns.columns_between.Goals as goal

pub returns-clause-value : goal.returns-clause-value
returns-clause-value c =
    let text = c.args.text.now in
    let count = c.args.to - c.args.from in
    omega (arith, c.span_len.ensures.value, column-between text (take count (drop c.args.from text)) c.args.from c.args.to count (omega (arith, c.if-from-eq0.false)) c.requires.order c.requires.within refl refl)
