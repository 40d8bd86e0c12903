use Rattle.std.proofs.Common.{arith}
use Rattle.ti_rules.proofs.ControlsLemmas.{empty}
use Rattle.ti_rules.proofs.control_remarks.add_look.Goals as goal

pub returns-clause-silent : goal.returns-clause-silent
returns-clause-silent g c = λ untrusted silent.
    let none = c.found.invariant.silent untrusted silent in empty c.args.found.now (omega arith)
