-- If the tokens that are left are narrow, all are.
use Rattle.std.proofs.Common.{length}
use Rattle.ti_allow.proofs.NarrowLemmas.{NarrowGo}
use Rattle.ti_allow.proofs.narrow.are_narrow.Given as goal

abbrev pub invariant-tokens : goal.invariant-tokens
invariant-tokens l = NarrowGo l.fn.tape l.tape

abbrev pub decreases-tokens : goal.decreases-tokens
decreases-tokens l = length l.tape.left
