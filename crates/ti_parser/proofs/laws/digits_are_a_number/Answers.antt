use Rattle.ti_parser.proofs.DigitLemmas.{digits_run}
use Rattle.ti_parser.proofs.laws.digits_are_a_number.Goals as goal

pub returns : goal.returns
returns c = λ reading a digit digits takes all.
    let read = digits_run reading digits digit a takes all in (read.functions, read.configuration)
