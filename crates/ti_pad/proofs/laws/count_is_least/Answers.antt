use Rattle.ti_pad.proofs.CountOfLemmas.{counts_enough, counts_least, passes_over}
use Rattle.ti_pad.proofs.laws.count_is_least.Goals as goal

pub returns : goal.returns
returns c = record { passed_over = passes_over; enough = counts_enough; least = counts_least }
