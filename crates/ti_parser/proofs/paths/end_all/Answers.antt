use Rattle.ti_parser.proofs.PathsLemmas.{end_next, end_whole}
use Rattle.ti_parser.proofs.paths.end_all.Goals as goal

pub loop-receiver-preserved : goal.loop-receiver-preserved
loop-receiver-preserved g c =
    end_next c.args.receivers.now c.loop-receiver.ends.items c.end.new.ends.items c.loop-receiver.receiver-index c.receiver-item.result c.loop-receiver-test.true c.receiver-item.is
    c.loop-receiver.invariant c.in_ok-end.ensures

pub returns : goal.returns
returns g c = end_whole c.args.receivers.now c.loop-receiver.ends.items c.loop-receiver.receiver-index c.loop-receiver-test.false c.loop-receiver.invariant
