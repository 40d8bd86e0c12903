use Rattle.ti_pad.proofs.PiecesJoinLemmas.{pieces_join}
use Rattle.ti_pad.proofs.laws.pieces_join.Goals as goal

pub returns : goal.returns
returns c = pieces_join
