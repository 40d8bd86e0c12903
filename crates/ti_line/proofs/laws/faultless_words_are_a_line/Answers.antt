use Rattle.ti_line.proofs.FaultlessLemmas.{line_made}
use Rattle.ti_line.proofs.laws.faultless_words_are_a_line.Goals as goal

pub returns : goal.returns
returns c = line_made
