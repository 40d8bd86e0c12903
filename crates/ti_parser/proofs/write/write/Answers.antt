use Rattle.std.proofs.Common.{List, subst}
use Rattle.ti_parser.specs.inner.Receivers.{Lead}
use Rattle.ti_parser.specs.Paths.{written}
use Rattle.ti_parser.specs.declared.receiver.Receiver.{Receiver}
use Rattle.ti_parser.proofs.DataLemmas.{written_data}
use Rattle.ti_parser.proofs.write.write.Goals as goal

pub returns-in_ok-after-in-Text-clause-leads : goal.returns-in_ok-after-in-Text-clause-leads
returns-in_ok-after-in-Text-clause-leads g c = λ s h tops.
    let text = written c.args.token.now s in
    let P : List Receiver → Type 0 = λ x. Lead c.args.reception text x c.args.sent.now.items c.in_ok-after-in-Text.after.items in
    subst P c.deref-in-Text.ensures.value (c.in_ok-after-in-Text.ensures text c.args.sent.now.items (written_data c.args.token.now c.in-Print.format s c.in-Print.is c.in-Text.is h))
