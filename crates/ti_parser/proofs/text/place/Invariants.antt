use Rattle.std.proofs.Common.{take}
use Rattle.ti_parser.specs.inner.Receivers.{CoverMore}
use Rattle.ti_parser.specs.inner.Texts.{ArePlaced}
use Rattle.ti_parser.proofs.text.place.Given as goal

abbrev pub invariant-loop-front : goal.invariant-loop-front
invariant-loop-front g l = record {
  kept : CoverMore l.fn.after.items l.after.items;
  placed : ArePlaced l.base l.after.items (take l.front-index l.front-items);
}
