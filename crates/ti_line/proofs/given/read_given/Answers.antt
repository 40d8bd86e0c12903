use Rattle.std.proofs.Common.{◌∙◌, sym}
use Rattle.ti_line.proofs.AreParamsLemmas.{given_by, some_words}
use Rattle.ti_line.proofs.given.read_given.Goals as goal

pub returns-in-Ok-clause-given : goal.returns-in-Ok-clause-given
returns-in-Ok-clause-given c = given_by _ _ (some_words c.args.words.now (sym c.is_empty.ensures ∙ c.if-is_empty.false)) c.in-Ok.ensures.values
