use Rattle.ti_allow.specs.declared.allowed.TheConstants.{ALLOWED}
use Rattle.ti_allow.proofs.BeyondLemmas.{on_ok_more}
use Rattle.ti_allow.proofs.beyond.add_cut.Goals as goal

pub returns-in-Some-clause-beyond : goal.returns-in-Some-clause-beyond
returns-in-Some-clause-beyond g c = on_ok_more c.add.result (λ more name are. more ALLOWED name are tt) c.add.ensures.beyond
