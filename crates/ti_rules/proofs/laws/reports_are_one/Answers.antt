use Rattle.ti_rules.proofs.OneReportLemmas.{one_report}
use Rattle.ti_rules.proofs.laws.reports_are_one.Goals as goal

pub returns : goal.returns
returns c = one_report
