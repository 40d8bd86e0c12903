use Rattle.std.proofs.Common.{arith}
use Rattle.std.proofs.lemmas.Grind.{common_steps}
use Rattle.ti_values.proofs.negative.next_is_negative.Goals as goal

pub returns-then-prints_signed-clause-forward : goal.returns-then-prints_signed-clause-forward
returns-then-prints_signed-clause-forward c = grind (arith, common_steps)

pub returns-else-prints_signed-clause-forward : goal.returns-else-prints_signed-clause-forward
returns-else-prints_signed-clause-forward c = grind (arith, common_steps)
