use Rattle.std.proofs.Common.{arith}
use Rattle.std.proofs.lemmas.Grind.{common_steps}
use Rattle.ti_values.proofs.sequence.is_rendition.Goals as goal

pub returns-then-not-starts_with : goal.returns-then-not-starts_with
returns-then-not-starts_with c = grind (arith, common_steps)

pub returns : goal.returns
returns c = grind (arith, common_steps)
