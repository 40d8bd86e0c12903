use Rattle.std.proofs.Common.{arith, below_more}
use Rattle.ti_values.proofs.negative.first_negative.Goals as goal

pub returns-then-branch : goal.returns-then-branch
returns-then-branch g c =
    record { exact = ((c.values-test.true, c.in_ok-prints_negative.ensures.0 c.if-branch.true), λ earlier low at. c.values.invariant earlier low at.1) }

pub values-preserved : goal.values-preserved
values-preserved g c =
    below_more _ _ c.values.invariant (λ prints. cc (c.in_ok-prints_negative.ensures.1 prints, c.if-branch.false))

pub returns : goal.returns
returns g c = record { exact = λ k at. c.values.invariant k (omega (arith, at.0, c.values-test.false)) at.1 }
