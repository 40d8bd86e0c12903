use Rattle.std.proofs.Common.{ap, arith}
use Rattle.ti_layout.specs.Table.{sizes_at}
use Rattle.ti_layout.proofs.VerdictLemmas.{places_left}
use Rattle.ti_layout.proofs.table.base_of.Goals as goal

pub loop-i-preserved : goal.loop-i-preserved
loop-i-preserved c =
    let step = ap (sizes_at c.args.bytes.now c.args.table.now) (places_left c.args.from 2 c.args.count c.loop-i.i c.loop-i-test.true) in
    let so_far = c.loop-i.invariant.total in
    let size = c.size_at-base.ensures.value in
    record { total = omega (arith, step, so_far, size); bound = omega arith }
