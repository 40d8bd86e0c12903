-- What is left to look at decides.
use Rattle.std.proofs.Common.{◌≡◌, ◌≤◌, drop}
use Rattle.std.specs.Prelude.{Some}
use Rattle.ti_lint.specs.declared.conditional.Idle.TheVariants.{Test}
use Rattle.ti_lint.specs.inner.Conditionals.{height_of, stays_idle}
use Rattle.ti_lint.proofs.conditional.has_no_effect.Given as goal

abbrev pub invariant-loop-token : goal.invariant-loop-token
invariant-loop-token l =
    (stays_idle (Some l.part) (drop l.token-index l.after) ≡ stays_idle (Some (Test 0)) l.after) × (height_of l.part ≤ l.token-index)
