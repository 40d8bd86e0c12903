use Rattle.std.proofs.Common.{take}
use Rattle.ti_parser.specs.inner.Receivers.{CoverMore}
use Rattle.ti_parser.proofs.parsers.insert_all.Given as goal

abbrev pub invariant-loop-other : goal.invariant-loop-other
invariant-loop-other g l = record {
  kept : CoverMore l.fn.parsers.items l.parsers.items;
  held : CoverMore (take l.other-index l.others) l.parsers.items;
}
