use Rattle.std.proofs.Common.{sym}
use Rattle.ti_c.proofs.WordsLemmas.{word_found}
use Rattle.ti_c.proofs.messages.ti_message.Goals as goal

pub returns-in-Some-clause-found : goal.returns-in-Some-clause-found
returns-in-Some-clause-found c = λ _. (c.in-Some.field-0.now, word_found c.args.number c.in-Some.field-0.now (sym c.in-Some.ensures))
