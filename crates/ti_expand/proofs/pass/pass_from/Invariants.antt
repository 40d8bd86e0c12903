use Rattle.std.proofs.Common.{ℕ, ◌+◌, ◌≤◌, length}
use Rattle.ti_expand.specs.inner.Underway.{GoesOn}
use Rattle.ti_expand.proofs.pass.pass_from.Given as goal

abbrev pub invariant-loop-mode : goal.invariant-loop-mode
invariant-loop-mode l = record {
  onward : (passed : ℕ) → GoesOn l.fn.tape.left l.fn.from passed l.tape.left l.mode (passed + l.passed);
  forward : length l.tape.left ≤ length l.fn.tape.left;
}

abbrev pub decreases-loop-mode : goal.decreases-loop-mode
decreases-loop-mode l = length l.tape.left
