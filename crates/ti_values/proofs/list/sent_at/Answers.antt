use Rattle.std.proofs.Common.{arith}
use Rattle.std.proofs.lemmas.Grind.{common_steps}
use Rattle.ti_values.proofs.list.sent_at.Goals as goal

pub returns-then-place-sent : goal.returns-then-place-sent
returns-then-place-sent g c = grind (arith, common_steps)

pub returns : goal.returns
returns g c = grind (arith, common_steps)
