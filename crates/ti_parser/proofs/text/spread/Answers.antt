use Rattle.ti_parser.proofs.SpreadLemmas.{spread_next, spread_one, spread_whole}
use Rattle.ti_parser.proofs.text.spread.Goals as goal

pub loop-base-init : goal.loop-base-init
loop-base-init g c = λ m front h. absurd h

pub loop-base-preserved : goal.loop-base-preserved
loop-base-preserved g c =
    spread_next c.args.marks c.args.bases.now c.loop-base.after.items c.place.new.after.items c.loop-base.base-index c.base-item.result c.loop-base-test.true c.base-item.is
    c.loop-base.invariant c.in_ok-place.ensures.kept (spread_one c.args.marks c.base-item.result c.place.new.after.items c.in_ok-place.ensures.placed)

pub returns : goal.returns
returns g c = spread_whole c.args.marks c.args.bases.now c.loop-base.after.items c.loop-base.base-index c.loop-base-test.false c.loop-base.invariant
