use Rattle.std.proofs.Common.{subst}
use Rattle.ti_parser.specs.inner.Receivers.{CoversMoment, Moment}
use Rattle.ti_parser.specs.declared.receiver.Receiver.{Receiver}
use Rattle.ti_parser.proofs.LeadLemmas.{cover_instead, cover_next}
use Rattle.ti_parser.proofs.parsers.insert_all.Goals as goal

pub loop-other-preserved : goal.loop-other-preserved
loop-other-preserved g c =
    let P : Receiver → Type 0 = λ x. (m : Moment) → CoversMoment x m → CoversMoment c.reduce.new.self m in
    record {
      kept = λ x h. c.in_ok-insert.ensures.kept x (c.loop-other.invariant.kept x h);
      held = cover_next c.args.others.now c.loop-other.parsers.items c.insert.new.parsers.items c.loop-other.other-index c.other-item.result
          c.loop-other-test.true c.other-item.is c.loop-other.invariant.held c.in_ok-insert.ensures.kept
          (cover_instead c.other-item.result c.reduce.new.self c.insert.new.parsers.items (subst P c.duplicate-parser.ensures c.reduce.ensures) c.in_ok-insert.ensures.held);
    }
