use Rattle.std.proofs.Common.{◌≤◌, arith}
use Rattle.ti_expand.proofs.DigitLoopLemmas.{writing_room, writing_step}
use Rattle.ti_expand.proofs.digits.write_radix.Goals as goal

pub overflow_sub-at : goal.overflow_sub-at
overflow_sub-at c =
    writing_room c.args.base c.args.upper c.args.number c.args.end c.args.out.now c.loop-left.at c.loop-left.left c.loop-left.out
    (omega arith) (omega arith) (omega arith) c.requires.room.0 c.loop-left.invariant

pub bounds-out-at : goal.bounds-out-at
bounds-out-at c =
    let some : 1 ≤ c.loop-left.at =
    writing_room c.args.base c.args.upper c.args.number c.args.end c.args.out.now c.loop-left.at c.loop-left.left c.loop-left.out
    (omega arith) (omega arith) (omega arith) c.requires.room.0 c.loop-left.invariant in
    omega (arith, c.loop-left.invariant.within)

pub loop-left-preserved : goal.loop-left-preserved
loop-left-preserved c =
    let some : 1 ≤ c.loop-left.at =
    writing_room c.args.base c.args.upper c.args.number c.args.end c.args.out.now c.loop-left.at c.loop-left.left c.loop-left.out
    (omega arith) (omega arith) (omega arith) c.requires.room.0 c.loop-left.invariant in
    writing_step c.args.base c.args.upper c.args.number c.args.end c.args.out.now c.loop-left.at c.loop-left.left c.loop-left.out c.glyph.result
    (omega arith) (omega arith) (omega arith) some c.glyph.ensures c.loop-left.invariant
