use Rattle.std.proofs.Common.{rules}
use Rattle.ti_line.proofs.IsLabelLemmas.{label_fits}
use Rattle.ti_line.proofs.label.index_of_label.Goals as goal

pub returns-else-starts_with-clause-none : goal.returns-else-starts_with-clause-none
returns-else-starts_with-clause-none c = search (label_fits, rules)
