use Rattle.ti_sink.specs.Pages.{Keeps}
use Rattle.ti_sink.proofs.page.Page.blanks.Given as goal

abbrev pub invariant-blanks : goal.invariant-blanks
invariant-blanks g l = Keeps l.initial.self l.self
