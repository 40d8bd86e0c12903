use Rattle.ti_tool.proofs.OneInputLemmas.{one_input, one_verdict}
use Rattle.ti_tool.proofs.OneResultLemmas.{one_answer}
use Rattle.ti_tool.proofs.laws.results_are_one.Goals as goal

pub returns : goal.returns
returns c = record { one = one_answer; verdict = one_verdict; input = one_input }
