-- The checks that were made have passed.
use Rattle.ti_layout.specs.Stages.{Stands, steps_left}
use Rattle.ti_layout.proofs.stage.Stage.advance.Given as goal

abbrev pub invariant-steps : goal.invariant-steps
invariant-steps l = Stands l.bytes l.self

abbrev pub decreases-steps : goal.decreases-steps
decreases-steps l = steps_left l.self
