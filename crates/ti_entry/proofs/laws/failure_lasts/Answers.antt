use Rattle.ti_entry.proofs.FeedLemmas.{failure_lasts}
use Rattle.ti_entry.proofs.laws.failure_lasts.Goals as goal

pub returns : goal.returns
returns c = failure_lasts
