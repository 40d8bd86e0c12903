use Rattle.ti_tool.proofs.PrintableLemmas.{capabilities, entries}
use Rattle.ti_tool.proofs.laws.escaped_results_are_printable.Goals as goal

pub returns : goal.returns
returns c = record { entries = entries; capabilities = capabilities }
