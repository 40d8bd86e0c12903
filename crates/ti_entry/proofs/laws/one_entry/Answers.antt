use Rattle.ti_entry.proofs.SpellsAtMostOneLemmas.{at_most_one}
use Rattle.ti_entry.proofs.laws.one_entry.Goals as goal

pub returns : goal.returns
returns c = at_most_one
