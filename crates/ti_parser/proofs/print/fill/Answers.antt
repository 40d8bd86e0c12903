use Rattle.std.proofs.Common.{Bool, List, ℕ, sym, subst}
use Rattle.ti_parser.specs.inner.Receivers.{Lead}
use Rattle.ti_parser.specs.inner.Forms.{AreBlanks}
use Rattle.ti_parser.proofs.LeadLemmas.{lead_nothing}
use Rattle.ti_parser.proofs.print.fill.Goals as goal

pub returns-in_ok-after-clause-leads : goal.returns-in_ok-after-clause-leads
returns-in_ok-after-clause-leads g c = λ text h.
    let P : Bool → Type 0 = λ t. AreBlanks t text in
    c.in_ok-after.ensures.leads text (subst P c.if-may.true h)

pub returns-else-may-clause-leads : goal.returns-else-may-clause-leads
returns-else-may-clause-leads g c = λ text h.
    let P : Bool → Type 0 = λ t. AreBlanks t text in
    let Q : List ℕ → Type 0 = λ x. Lead c.args.reception x c.args.here.items c.args.sent.now.items c.args.here.items in
    subst Q (sym (subst P c.if-may.false h)) (lead_nothing c.args.reception c.args.here.items c.args.here.items c.args.sent.now.items (λ d k. k))
