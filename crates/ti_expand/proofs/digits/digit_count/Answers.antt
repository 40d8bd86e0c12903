use Rattle.std.proofs.Common.{arith}
use Rattle.ti_expand.proofs.DigitLoopLemmas.{counting_step}
use Rattle.ti_expand.proofs.digits.digit_count.Goals as goal

pub loop-left-preserved : goal.loop-left-preserved
loop-left-preserved c =
    counting_step c.args.base c.args.number c.loop-left.count c.loop-left.left (omega arith) (omega arith) (omega arith) c.loop-left.invariant
