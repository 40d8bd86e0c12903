use Rattle.std.proofs.Common.{[], ◌∷◌, take}
use Rattle.ti_parser.specs.Covers.{SendMore}
use Rattle.ti_parser.specs.inner.Receivers.{Lead}
use Rattle.ti_parser.proofs.parsers.step_all.Given as goal

abbrev pub invariant-loop-parser : goal.invariant-loop-parser
invariant-loop-parser g l = record {
  kept : SendMore l.fn.sent.items l.sent.items;
  leads : Lead l.reception (l.byte ∷ []) (take l.parser-index l.parsers) l.sent.items l.after.items;
}
