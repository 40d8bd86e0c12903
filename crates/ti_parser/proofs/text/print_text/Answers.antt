use Rattle.std.proofs.Common.{List, subst}
use Rattle.ti_parser.specs.inner.Texts.{Spread}
use Rattle.ti_parser.specs.declared.receiver.Receiver.{Receiver}
use Rattle.ti_parser.proofs.SpreadLemmas.{lead_text}
use Rattle.ti_parser.proofs.text.print_text.Goals as goal

pub returns : goal.returns
returns g c = λ text sent h.
    let r = c.args.reception in
    let P : List Receiver → Type 0 = λ xs. Spread r.marks xs c.in_ok-after.after.items in
    lead_text r c.args.here.now c.in_ok-bases.bases.items c.in_ok-few.few.items sent text c.in_ok-bases.ensures
    (λ m front among is comes. c.in_ok-few.ensures _ (subst P c.deref.ensures.value c.in_ok-after.ensures m front among is comes)) h
