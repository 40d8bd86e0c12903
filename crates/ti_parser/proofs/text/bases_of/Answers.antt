use Rattle.ti_parser.proofs.SpreadLemmas.{bases_next, bases_whole}
use Rattle.ti_parser.proofs.text.bases_of.Goals as goal

pub loop-receiver-preserved : goal.loop-receiver-preserved
loop-receiver-preserved g c =
    bases_next c.args.marks c.loop-receiver.bases.items c.add_base.new.bases.items c.args.here.now c.loop-receiver.receiver-index c.receiver-item.result c.loop-receiver-test.true
    c.receiver-item.is c.loop-receiver.invariant c.in_ok-add_base.ensures.kept c.in_ok-add_base.ensures.base

pub returns : goal.returns
returns g c = bases_whole c.args.marks c.loop-receiver.bases.items c.args.here.now c.loop-receiver.receiver-index c.loop-receiver-test.false c.loop-receiver.invariant
