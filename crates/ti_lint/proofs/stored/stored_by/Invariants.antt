-- The set is what the tokens so far store.
use Rattle.std.proofs.Common.{length}
use Rattle.ti_lint.proofs.StoredLemmas.{Collects}
use Rattle.ti_lint.proofs.stored.stored_by.Given as goal

abbrev pub invariant-loop-token : goal.invariant-loop-token
invariant-loop-token l = Collects l.fn.capability l.tape l.stored

abbrev pub decreases-loop-token : goal.decreases-loop-token
decreases-loop-token l = length l.tape.left
