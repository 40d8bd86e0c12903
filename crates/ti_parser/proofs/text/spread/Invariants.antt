use Rattle.std.proofs.Common.{take}
use Rattle.ti_parser.specs.inner.Texts.{Spread}
use Rattle.ti_parser.proofs.text.spread.Given as goal

abbrev pub invariant-loop-base : goal.invariant-loop-base
invariant-loop-base g l = Spread l.marks (take l.base-index l.bases) l.after.items
