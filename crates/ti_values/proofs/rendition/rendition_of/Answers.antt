use Rattle.std.proofs.Common.{arith}
use Rattle.std.proofs.lemmas.Grind.{common_steps}
use Rattle.ti_values.proofs.rendition.rendition_of.Goals as goal

pub returns-then-starts_rendition : goal.returns-then-starts_rendition
returns-then-starts_rendition c = grind (arith, common_steps)

pub returns : goal.returns
returns c = grind (arith, common_steps)
