use Rattle.ti_values.specs.declared.tried.Tried.TheVariants.{Number}
use Rattle.ti_values.proofs.SentLemmas.{sent_more}
use Rattle.ti_values.proofs.sent.sent_for.Goals as goal

pub values-preserved : goal.values-preserved
values-preserved g c =
    sent_more c.args.capability.now c.args.values.now c.values.value-index (Number 0) _ _ _ c.values-test.true c.values.invariant c.in_ok-sent_by.ensures.all c.in_ok-push.ensures.items
