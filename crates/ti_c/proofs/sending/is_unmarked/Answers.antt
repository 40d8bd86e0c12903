use Rattle.ti_c.proofs.SendingLemmas.{unmarked}
use Rattle.ti_c.proofs.sending.is_unmarked.Goals as goal

pub returns-in-None : goal.returns-in-None
returns-in-None c = λ setting. unmarked c.args.text.now setting c.in-None.ensures
