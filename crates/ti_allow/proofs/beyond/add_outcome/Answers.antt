use Rattle.ti_allow.specs.declared.allowed.TheConstants.{ALLOWED}
use Rattle.ti_allow.proofs.BeyondLemmas.{on_ok_more}
use Rattle.ti_allow.proofs.beyond.add_outcome.Goals as goal

pub returns-in-ComputedByte-clause-beyond : goal.returns-in-ComputedByte-clause-beyond
returns-in-ComputedByte-clause-beyond g c = on_ok_more c.add.result (λ more name are. more ALLOWED name are tt) c.add.ensures.beyond

pub returns-in-NotTried-clause-beyond : goal.returns-in-NotTried-clause-beyond
returns-in-NotTried-clause-beyond g c = on_ok_more c.add-in-NotTried.result (λ more name are. more ALLOWED name are tt) c.add-in-NotTried.ensures.beyond
