use Rattle.ti_sink.specs.Printed.{Keeps}
use Rattle.ti_sink.proofs.printer.Printer.close.Given as goal

abbrev pub invariant-brackets : goal.invariant-brackets
invariant-brackets g l = Keeps l.initial.self l.self
