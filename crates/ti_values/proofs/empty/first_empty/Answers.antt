use Rattle.std.proofs.Common.{arith}
use Rattle.std.proofs.lemmas.Grind.{common_steps}
use Rattle.std.proofs.lemmas.List.{length-map}
use Rattle.ti_values.proofs.empty.first_empty.Goals as goal

pub returns-then-is_empty : goal.returns-then-is_empty
returns-then-is_empty g c = grind (arith, common_steps)

pub returns : goal.returns
returns g c =
    record { exact = λ k at. c.values.invariant k (omega (arith, at.0, c.values-test.false, length-map c.args.sent.now (λ t. t.items))) at.1 }
