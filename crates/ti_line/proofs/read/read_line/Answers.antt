use Rattle.std.proofs.Common.{refl}
use Rattle.clap.specs.Words.{kind_of}
use Rattle.ti_line.specs.Requests.{texts_of}
use Rattle.ti_line.proofs.ExplainsLemmas.{explains}
use Rattle.ti_line.proofs.read.read_line.Goals as goal

pub returns-in-Err-clause-none : goal.returns-in-Err-clause-none
returns-in-Err-clause-none c = explains c.args.to (texts_of c.args.words.now) _ (kind_of c.in-Err.error) c.no_request.result refl c.in-Err.ensures.kinds c.no_request.ensures.tells
