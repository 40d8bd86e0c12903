use Rattle.std.proofs.Common.{List, subst, arith}
use Rattle.ti_parser.specs.inner.Receivers.{EachLeads}
use Rattle.ti_parser.specs.declared.receiver.Receiver.{Receiver}
use Rattle.ti_parser.proofs.LeadLemmas.{lead_count, lead_count_none, lead_count_on}
use Rattle.ti_parser.proofs.parsers.step_most.Goals as goal

pub loop-init : goal.loop-init
loop-init g c = record { kept = λ f h. h; leads = lead_count_none c.args.reception c.args.digits.bytes.now c.args.parsers.items c.args.sent.now.items }

pub loop-preserved : goal.loop-preserved
loop-preserved g c =
    let P : List Receiver → Type 0 = λ x. EachLeads c.args.reception c.args.digits.bytes.now x c.step_any.new.sent.items c.in_ok-now.now.items in
    record {
      kept = λ f h. c.in_ok-now.ensures.kept f (c.loop.invariant.kept f h);
      leads = lead_count c.args.reception c.args.digits.bytes.now c.loop.counter c.args.parsers.items c.loop.now.items c.in_ok-now.now.items c.loop.sent.items
          c.step_any.new.sent.items c.loop.invariant.leads c.in_ok-now.ensures.kept (subst P c.deref.ensures.value c.in_ok-now.ensures.leads);
    }

pub returns-clause-leads : goal.returns-clause-leads
returns-clause-leads g c =
    lead_count_on c.args.reception c.args.digits.bytes.now c.args.digits.least c.loop.counter c.args.parsers.items c.loop.now.items c.in_ok-after.after.items c.loop.sent.items c.step_on.new.sent.items
    (omega arith) c.loop.invariant.leads c.in_ok-after.ensures.kept c.in_ok-after.ensures.leads
