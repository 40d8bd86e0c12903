use Rattle.std.proofs.Common.{List, subst}
use Rattle.ti_parser.specs.inner.Receivers.{CoverMore, EachLeads}
use Rattle.ti_parser.specs.declared.receiver.Receiver.{Receiver}
use Rattle.ti_parser.proofs.LeadLemmas.{each_more, lead_less, lead_on}
use Rattle.ti_parser.proofs.parsers.step_on.Goals as goal

pub returns-then-has_all-clause-kept : goal.returns-then-has_all-clause-kept
returns-then-has_all-clause-kept g c = λ f h. c.in_ok-more.ensures.kept f (c.loop.invariant.kept f h)

pub returns-then-has_all-clause-leads : goal.returns-then-has_all-clause-leads
returns-then-has_all-clause-leads g c = λ text t.
    let all = c.loop.all.items in
    let more = c.in_ok-more.more.items in
    let sent = c.step_any.new.sent.items in
    let P : List Receiver → Type 0 = λ x. EachLeads c.args.reception c.args.bytes.now x sent more in
    let Q : List Receiver → Type 0 = λ x. CoverMore more x in
    let R : List Receiver → Type 0 = λ x. CoverMore x c.deref-in-loop.result.now in
    let had : CoverMore more all = subst Q c.deref-in-loop.ensures.value (subst R c.deref-in-loop-2.ensures.value c.if-has_all.ensures) in
    lead_less c.args.reception text c.args.parsers.items all all sent c.loop.invariant.more
    (lead_on c.args.reception c.args.bytes.now text all sent
    (each_more c.args.reception c.args.bytes.now all more all sent sent (subst P c.deref.ensures.value c.in_ok-more.ensures.leads) (λ f h. h) had) t)
