use Rattle.std.proofs.Common.{arith}
use Rattle.std.proofs.lemmas.Grind.{common_steps}
use Rattle.ti_cap.proofs.scan.Scan.take.Goals as goal

pub returns-in-Param-clause-taken : goal.returns-in-Param-clause-taken
returns-in-Param-clause-taken o c = grind (arith, common_steps)

pub returns-in-Length-clause-taken : goal.returns-in-Length-clause-taken
returns-in-Length-clause-taken o c = grind (arith, common_steps)

pub returns-in-Byte-clause-taken : goal.returns-in-Byte-clause-taken
returns-in-Byte-clause-taken o c = grind (arith, common_steps)

pub returns-in-Store-clause-taken : goal.returns-in-Store-clause-taken
returns-in-Store-clause-taken o c = grind (arith, common_steps)

pub returns-in-Increment-clause-taken : goal.returns-in-Increment-clause-taken
returns-in-Increment-clause-taken o c = grind (arith, common_steps)

pub returns-in-Char-clause-taken : goal.returns-in-Char-clause-taken
returns-in-Char-clause-taken o c = grind (arith, common_steps)

pub returns-in-Print-clause-taken : goal.returns-in-Print-clause-taken
returns-in-Print-clause-taken o c = grind (arith, common_steps)
