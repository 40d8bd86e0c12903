use Rattle.ti_expand.proofs.TakenIsPathLemmas.{taken_is_path}
use Rattle.ti_expand.proofs.laws.taken_path.Goals as goal

pub returns : goal.returns
returns c = taken_is_path
