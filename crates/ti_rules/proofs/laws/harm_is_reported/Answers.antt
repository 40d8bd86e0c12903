use Rattle.ti_rules.proofs.HarmLemmas.{harm_is_reported}
use Rattle.ti_rules.proofs.laws.harm_is_reported.Goals as goal

pub returns : goal.returns
returns c = harm_is_reported
