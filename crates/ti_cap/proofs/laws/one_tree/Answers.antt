use Rattle.ti_cap.specs.Tree.{tokens}
use Rattle.ti_cap.proofs.WrittenLemmas.{one_cutting}
use Rattle.ti_cap.proofs.OneTreeLemmas.{one_tree}
use Rattle.ti_cap.proofs.laws.one_tree.Goals as goal

pub returns : goal.returns
returns c = λ s t bytes p q. one_tree s t p.formed q.formed (one_cutting (tokens s) (tokens t) bytes p.written q.written)
