use Rattle.ti_rules.proofs.ControlsLemmas.{only_table}
use Rattle.ti_rules.proofs.laws.strings_keep_to_the_table.Goals as goal

pub returns : goal.returns
returns c = only_table
