use Rattle.ti_expand.proofs.OnePassLemmas.{steps_are_the_pass}
use Rattle.ti_expand.proofs.laws.steps_are_the_pass.Goals as goal

pub returns : goal.returns
returns c = steps_are_the_pass
