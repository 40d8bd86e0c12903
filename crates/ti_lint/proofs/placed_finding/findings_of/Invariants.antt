-- The list has what was found of the tokens so far.
use Rattle.std.proofs.Common.{◌≡◌, length}
use Rattle.ti_lint.proofs.FoundAtLemmas.{Lists}
use Rattle.ti_lint.proofs.placed_finding.findings_of.Given as goal

abbrev pub invariant-loop-judged : goal.invariant-loop-judged
invariant-loop-judged g l =
    Lists l.fn.capability l.fn.expected l.findings l.list.items × (l.place ≡ length l.findings.spot.taken)

abbrev pub decreases-loop-judged : goal.decreases-loop-judged
decreases-loop-judged g l = length l.findings.spot.left
