use Rattle.ti_expand.proofs.DigitLoopLemmas.{IsCounting}
use Rattle.ti_expand.proofs.digits.digit_count.Given as goal

abbrev pub invariant-loop-left : goal.invariant-loop-left
invariant-loop-left l = IsCounting l.base l.number l.count l.left

abbrev pub decreases-loop-left : goal.decreases-loop-left
decreases-loop-left l = l.left
