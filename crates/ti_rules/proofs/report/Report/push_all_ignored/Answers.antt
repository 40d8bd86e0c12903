use Rattle.std.proofs.Common.{arith}
use Rattle.std.proofs.lemmas.Grind.{common_steps}
use Rattle.ti_rules.proofs.report.Report.push_all_ignored.Goals as goal

pub attributes-preserved : goal.attributes-preserved
attributes-preserved g c = grind (arith, common_steps)
