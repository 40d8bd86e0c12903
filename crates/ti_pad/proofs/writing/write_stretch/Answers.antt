use Rattle.std.proofs.Common.{arith}
use Rattle.std.proofs.lemmas.Grind.{common_steps}
use Rattle.ti_pad.proofs.writing.write_stretch.Goals as goal

pub returns-in-Pads-clause-short : goal.returns-in-Pads-clause-short
returns-in-Pads-clause-short c = grind (arith, common_steps)
