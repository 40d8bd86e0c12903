use Rattle.ti_parser.proofs.TextLemmas.{text_run}
use Rattle.ti_parser.proofs.laws.text_passes.Goals as goal

pub returns : goal.returns
returns c = text_run
