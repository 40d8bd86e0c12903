use Rattle.std.proofs.Common.{arith, rules}
use Rattle.std.proofs.lemmas.Slice.{overwrites}
use Rattle.std.proofs.lemmas.Grind.{common_steps}
use Rattle.ti_pad.proofs.slice.put_stretch.Goals as goal

pub returns-in-Literal-clause-rest : goal.returns-in-Literal-clause-rest
returns-in-Literal-clause-rest c = search (rules, overwrites)

pub returns-in-Pads-clause-rest : goal.returns-in-Pads-clause-rest
returns-in-Pads-clause-rest c = search (rules, overwrites)

pub returns-in-Literal-clause-written : goal.returns-in-Literal-clause-written
returns-in-Literal-clause-written c = grind (arith, common_steps)

pub returns-in-Pads-clause-written : goal.returns-in-Pads-clause-written
returns-in-Pads-clause-written c = grind (arith, common_steps)
