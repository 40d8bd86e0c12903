use Rattle.std.proofs.Common.{List, subst}
use Rattle.ti_parser.specs.inner.Texts.{ArePlaced}
use Rattle.ti_parser.specs.declared.padding.Front.{Front}
use Rattle.ti_parser.specs.declared.padding.Front.TheVariants.{Text}
use Rattle.ti_parser.proofs.SpreadLemmas.{placed_next, placed_whole}
use Rattle.ti_parser.proofs.text.place.Goals as goal

pub loop-front-preserved : goal.loop-front-preserved
loop-front-preserved g c = record {
  kept = λ m h. c.in_ok-insert.ensures.kept m (c.loop-front.invariant.kept m h);
  placed = placed_next c.args.base.now c.loop-front.after.items c.insert.new.parsers.items c.fronts-front-items.result.now c.loop-front.front-index Text c.placed.result
      c.loop-front-test.true c.loop-front.invariant.placed c.in_ok-insert.ensures.kept c.placed.ensures c.in_ok-insert.ensures.held;
}

pub returns-clause-placed : goal.returns-clause-placed
returns-clause-placed g c =
    let P : List Front → Type 0 = λ xs. ArePlaced c.args.base.now c.loop-front.after.items xs in
    subst P c.fronts-front-items.ensures (placed_whole c.args.base.now c.loop-front.after.items c.fronts-front-items.result.now c.loop-front.front-index c.loop-front-test.false c.loop-front.invariant.placed)
