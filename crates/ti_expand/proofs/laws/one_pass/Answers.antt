use Rattle.ti_expand.proofs.FlatLemmas.{one_pass_follows, counts_stay_low}
use Rattle.ti_expand.proofs.laws.one_pass.Goals as goal

pub returns-clause-follows : goal.returns-clause-follows
returns-clause-follows c = one_pass_follows

pub returns-clause-counts : goal.returns-clause-counts
returns-clause-counts c = counts_stay_low
