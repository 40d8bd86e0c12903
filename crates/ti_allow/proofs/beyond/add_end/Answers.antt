use Rattle.ti_allow.specs.declared.allowed.TheConstants.{ALLOWED}
use Rattle.ti_allow.proofs.BeyondLemmas.{on_ok_more}
use Rattle.ti_allow.proofs.beyond.add_end.Goals as goal

pub returns-clause-beyond : goal.returns-clause-beyond
returns-clause-beyond g c = on_ok_more c.add.result (λ more name are. more ALLOWED name are tt) c.add.ensures.beyond
