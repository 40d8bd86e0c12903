use Rattle.std.proofs.Common.{arith}
use Rattle.std.proofs.lemmas.Grind.{common_steps}
use Rattle.ti_values.proofs.sequence.escape_len.Goals as goal

pub returns-in-91 : goal.returns-in-91
returns-in-91 c = grind (arith, common_steps)
