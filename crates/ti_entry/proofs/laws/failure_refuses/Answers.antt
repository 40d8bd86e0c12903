use Rattle.ti_entry.proofs.FeedLemmas.{failure_refuses}
use Rattle.ti_entry.proofs.laws.failure_refuses.Goals as goal

pub returns : goal.returns
returns c = failure_refuses
