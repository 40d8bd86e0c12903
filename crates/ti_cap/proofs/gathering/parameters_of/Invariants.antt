-- The pass stands between two tokens of the tree.
use Rattle.std.proofs.Common.{length}
use Rattle.ti_cap.proofs.StandsLemmas.{Stands}
use Rattle.ti_cap.proofs.gathering.parameters_of.Given as goal

abbrev pub invariant-loop-token : goal.invariant-loop-token
invariant-loop-token l = Stands l.fn.tape.left l.tape.left l.gathering

abbrev pub decreases-loop-token : goal.decreases-loop-token
decreases-loop-token l = length l.tape.left
