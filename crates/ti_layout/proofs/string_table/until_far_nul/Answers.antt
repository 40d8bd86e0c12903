use Rattle.ti_layout.proofs.UntilNulLemmas.{until_first, until_end}
use Rattle.ti_layout.proofs.string_table.until_far_nul.Goals as goal

pub returns-in-Some : goal.returns-in-Some
returns-in-Some c = let found = c.in-Some.ensures in until_first c.args.bytes.now c.in-Some.end found.0.high found.0.before found.1

pub returns-in-None : goal.returns-in-None
returns-in-None c = until_end c.args.bytes.now c.in-None.ensures
