use Rattle.ti_parser.proofs.RunLemmas.{escaped_alike}
use Rattle.ti_parser.proofs.laws.escape_restarts.Goals as goal

pub returns : goal.returns
returns c = λ reading a b bytes.
    let alike = escaped_alike reading a b bytes in (alike.functions, alike.configuration)
