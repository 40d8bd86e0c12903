use Rattle.ti_cap.proofs.WrittenLemmas.{one_cutting}
use Rattle.ti_cap.proofs.laws.one_cutting.Goals as goal

pub returns : goal.returns
returns c = λ p q bytes v w. one_cutting p q bytes v w
