use Rattle.std.proofs.Common.{sym}
use Rattle.ti_c.proofs.WordsLemmas.{word_found}
use Rattle.ti_c.proofs.words.ti_word.Goals as goal

pub returns-in-Some-clause-found : goal.returns-in-Some-clause-found
returns-in-Some-clause-found c = λ _. word_found c.args.number _ (sym c.in-Some.ensures)
