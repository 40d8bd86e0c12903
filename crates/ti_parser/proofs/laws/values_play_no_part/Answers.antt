use Rattle.ti_parser.proofs.BlurLemmas.{like_runs}
use Rattle.ti_parser.proofs.laws.values_play_no_part.Goals as goal

pub returns : goal.returns
returns c = λ reading a b bytes h. let like = like_runs reading bytes a b h in (like.functions, like.configuration)
