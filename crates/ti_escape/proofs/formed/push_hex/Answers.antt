use Rattle.std.proofs.Common.{arith}
use Rattle.std.proofs.lemmas.Grind.{common_steps}
use Rattle.ti_escape.proofs.FormsLemmas.{hex_length}
use Rattle.ti_escape.proofs.formed.push_hex.Goals as goal

pub returns-in_err-reserve-clause-room : goal.returns-in_err-reserve-clause-room
returns-in_err-reserve-clause-room c = grind (arith, common_steps, hex_length)

pub returns-clause-text : goal.returns-clause-text
returns-clause-text c = grind (arith, common_steps, hex_length)
