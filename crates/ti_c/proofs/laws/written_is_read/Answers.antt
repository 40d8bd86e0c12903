use Rattle.ti_c.proofs.EncodingLemmas.{written_is_read}
use Rattle.ti_c.proofs.laws.written_is_read.Goals as goal

pub returns : goal.returns
returns c = written_is_read
