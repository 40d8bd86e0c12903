use Rattle.std.proofs.Common.{arith}
use Rattle.std.proofs.lemmas.Grind.{common_steps}
use Rattle.ti_rules.proofs.names.add_names.Goals as goal

pub names-preserved : goal.names-preserved
names-preserved g c = grind (arith, common_steps)
