use Rattle.ti_cap.proofs.OneRefusalLemmas.{one_refusal}
use Rattle.ti_cap.proofs.laws.one_refusal.Goals as goal

pub returns : goal.returns
returns c = λ one other bytes p q. one_refusal one other bytes p q
