use Rattle.ti_parser.specs.Covers.{SendMore}
use Rattle.ti_parser.proofs.LeadLemmas.{LeadCount}
use Rattle.ti_parser.proofs.parsers.step_most.Given as goal

abbrev pub invariant-loop : goal.invariant-loop
invariant-loop g l = record {
  kept : SendMore l.fn.sent.items l.sent.items;
  leads : LeadCount l.reception l.digits.bytes.now l.counter l.fn.parsers.items l.sent.items l.now.items;
}
