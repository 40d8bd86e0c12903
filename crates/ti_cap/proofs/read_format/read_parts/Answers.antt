use Rattle.std.proofs.Common.{arith}
use Rattle.std.proofs.lemmas.Grind.{common_steps}
use Rattle.ti_cap.specs.inner.Lexer.{format_read}
use Rattle.ti_cap.proofs.read_format.read_parts.Goals as goal

pub returns-in-empty : goal.returns-in-empty
unfolding format_read
returns-in-empty c = grind (arith, common_steps)

pub returns-in-58 : goal.returns-in-58
unfolding format_read
returns-in-58 c = grind (arith, common_steps)

pub returns-in-len1-up : goal.returns-in-len1-up
unfolding format_read
returns-in-len1-up c = grind (arith, common_steps)

pub returns-in_default : goal.returns-in_default
unfolding format_read
returns-in_default c = grind (arith, common_steps)
