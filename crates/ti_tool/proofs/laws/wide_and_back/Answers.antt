use Rattle.ti_tool.proofs.WideAndBackLemmas.{wide_and_back}
use Rattle.ti_tool.proofs.laws.wide_and_back.Goals as goal

pub returns : goal.returns
returns c = wide_and_back
