use Rattle.std.proofs.Common.{[], ◌∷◌, subst}
use Rattle.ti_parser.specs.declared.receiver.Receiver.{Receiver}
use Rattle.ti_parser.specs.inner.Receivers.{CoverMore}
use Rattle.ti_parser.proofs.InTextLemmas.{but_text}
use Rattle.ti_parser.proofs.settled.hear_text.Goals as goal

pub returns-in_ok-insert-clause-leads : goal.returns-in_ok-insert-clause-leads
returns-in_ok-insert-clause-leads g c = λ r b sent is.
    let after = c.insert.new.parsers.items in
    let P : Receiver → Type 0 = λ k. CoverMore (k ∷ []) after in
    but_text r b c.args.receiver.now c.args.others.now.items sent after is c.if-is_in_text.ensures (subst P c.after_text.ensures c.in_ok-insert.ensures.held)
