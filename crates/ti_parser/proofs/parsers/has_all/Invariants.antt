use Rattle.std.proofs.Common.{take}
use Rattle.ti_parser.specs.inner.Receivers.{CoverMore}
use Rattle.ti_parser.proofs.parsers.has_all.Given as goal

abbrev pub invariant-loop-other : goal.invariant-loop-other
invariant-loop-other l = CoverMore (take l.other-index l.others) l.parsers
