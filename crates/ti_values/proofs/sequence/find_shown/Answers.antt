use Rattle.std.proofs.Common.{arith}
use Rattle.std.proofs.lemmas.Grind.{common_steps}
use Rattle.ti_values.proofs.sequence.find_shown.Goals as goal

pub returns-then-has_shown : goal.returns-then-has_shown
returns-then-has_shown g c = grind (arith, common_steps)

pub returns : goal.returns
returns g c = grind (arith, common_steps)
