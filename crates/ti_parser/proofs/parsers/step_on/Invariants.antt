use Rattle.ti_parser.specs.Covers.{SendMore}
use Rattle.ti_parser.specs.inner.Receivers.{CoverMore}
use Rattle.ti_parser.proofs.parsers.step_on.Given as goal

abbrev pub invariant-loop : goal.invariant-loop
invariant-loop g l = record {
  kept : SendMore l.fn.sent.items l.sent.items;
  more : CoverMore l.fn.parsers.items l.all.items;
}
