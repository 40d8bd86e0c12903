-- The list is what the tape has given.
use Rattle.std.proofs.Common.{◌≡◌, length}
use Rattle.ti_cap.specs.Spelling.{Written}
use Rattle.ti_cap.specs.Capability.{whole}
use Rattle.ti_lint.proofs.tokens.tokens_of.Given as goal

abbrev pub invariant-loop-token : goal.invariant-loop-token
invariant-loop-token g l = (whole l.tape ≡ l.fn.capability) × Written l.tokens.items l.tape.taken

abbrev pub decreases-loop-token : goal.decreases-loop-token
decreases-loop-token g l = length l.tape.left
