use Rattle.std.proofs.Common.{arith}
use Rattle.std.proofs.lemmas.Grind.{common_steps}
use Rattle.ti_cap.proofs.lexer.read_escape.Goals as goal

pub returns-in_err-read_parameter-in-112 : goal.returns-in_err-read_parameter-in-112
returns-in_err-read_parameter-in-112 c = grind (arith, common_steps)

pub returns-in_err-read_variable-in-80 : goal.returns-in_err-read_variable-in-80
returns-in_err-read_variable-in-80 c = grind (arith, common_steps)

pub returns-in_err-read_variable-in-103 : goal.returns-in_err-read_variable-in-103
returns-in_err-read_variable-in-103 c = grind (arith, common_steps)

pub returns-in_err-read_quoted-in-39 : goal.returns-in_err-read_quoted-in-39
returns-in_err-read_quoted-in-39 c = grind (arith, common_steps)

pub returns-in_err-value-in-123 : goal.returns-in_err-value-in-123
returns-in_err-value-in-123 c = grind (arith, common_steps)

pub returns-in_ok-value-in-123 : goal.returns-in_ok-value-in-123
returns-in_ok-value-in-123 c = grind (arith, common_steps)
