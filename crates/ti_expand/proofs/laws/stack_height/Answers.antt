use Rattle.ti_expand.proofs.StackHeightLemmas.{token_height_is_stack, path_height_is_stack, taken_path_is_meaning}
use Rattle.ti_expand.proofs.laws.stack_height.Goals as goal

pub returns-clause-token : goal.returns-clause-token
returns-clause-token c = token_height_is_stack

pub returns-clause-path : goal.returns-clause-path
returns-clause-path c = path_height_is_stack

pub returns-clause-meaning : goal.returns-clause-meaning
returns-clause-meaning c = taken_path_is_meaning
