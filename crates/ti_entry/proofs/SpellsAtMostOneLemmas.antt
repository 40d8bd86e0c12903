-- Bytes spell at most one entry: what they are read as.
use Rattle.std.proofs.Common.{sym, ◌∙◌}
use Rattle.ti_entry.specs.Laws.{SpellsAtMostOne}
use Rattle.ti_entry.proofs.SpelledExtendedLemmas.{only}

pub at_most_one : SpellsAtMostOne
at_most_one bytes v w s z = (only bytes v s).same ∙ sym (only bytes w z).same
