use Rattle.ti_expand.proofs.DigitLoopLemmas.{IsWriting}
use Rattle.ti_expand.proofs.digits.write_radix.Given as goal

abbrev pub invariant-loop-left : goal.invariant-loop-left
invariant-loop-left l = IsWriting l.base l.upper l.number l.end l.fn.out l.at l.left l.out

abbrev pub decreases-loop-left : goal.decreases-loop-left
decreases-loop-left l = l.left
