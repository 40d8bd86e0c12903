use Rattle.std.proofs.Common.{◌≡◌, length}
use Rattle.ti_cap.specs.declared.mode.Mode.TheVariants.{Run}
use Rattle.ti_expand.specs.State.{start}
use Rattle.ti_expand.specs.inner.Held.{held, IsInPlace}
use Rattle.ti_expand.specs.inner.Underway.{HasPassed}
use Rattle.ti_expand.proofs.pass.run_tokens.Given as goal

abbrev pub invariant-loop-token : goal.invariant-loop-token
invariant-loop-token l = record {
  here : HasPassed l.initial.tape.left (start l.fn.vars l.fn.parameters) (length l.fn.stack) (length l.fn.out) l.tape.left Run (held l.machine).state l.passed (held l.machine).highest;
  places : (held l.machine).places ≡ length l.fn.stack;
  room : (held l.machine).room ≡ length l.fn.out;
  place : IsInPlace l.initial.machine l.machine;
}

abbrev pub decreases-loop-token : goal.decreases-loop-token
decreases-loop-token l = length l.tape.left
