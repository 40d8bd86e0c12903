use Rattle.ti_parser.proofs.LeadLemmas.{cover_next}
use Rattle.ti_parser.proofs.parsers.has_all.Goals as goal

pub loop-other-preserved : goal.loop-other-preserved
loop-other-preserved c =
    cover_next c.args.others.now c.args.parsers.now c.args.parsers.now c.loop-other.other-index c.other-item.result c.loop-other-test.true c.other-item.is
    c.loop-other.invariant (λ x h. h) c.if-not-has.ensures
