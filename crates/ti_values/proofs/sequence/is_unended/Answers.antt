use Rattle.std.proofs.Common.{arith}
use Rattle.std.proofs.lemmas.Grind.{common_steps}
use Rattle.ti_values.proofs.sequence.is_unended.Goals as goal

pub returns-then-starts_with : goal.returns-then-starts_with
returns-then-starts_with c = grind (arith, common_steps)

pub returns-else-starts_with : goal.returns-else-starts_with
returns-else-starts_with c = grind (arith, common_steps)
