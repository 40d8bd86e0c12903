use Rattle.std.proofs.Common.{[], ◌∷◌, subst}
use Rattle.ti_parser.specs.Covers.{SendMore}
use Rattle.ti_parser.specs.Functions.{listed}
use Rattle.ti_parser.specs.declared.configuration.Configuration.{Configuration}
use Rattle.ti_parser.specs.declared.function.HandedOut.{HandedOut}
use Rattle.ti_parser.specs.declared.receiver.Receiver.{Receiver}
use Rattle.ti_parser.specs.inner.Colors.{IsColor, LeadBut}
use Rattle.ti_parser.specs.inner.Receivers.{CoverMore}
use Rattle.ti_parser.proofs.ColorLemmas.{but_color}
use Rattle.ti_parser.proofs.parsers.hear_color.Goals as goal

pub returns-in_ok-insert-clause-leads : goal.returns-in_ok-insert-clause-leads
returns-in_ok-insert-clause-leads g c = λ r b hex.
    let k = c.duplicate-next.result in
    let others = c.args.others.now.items in
    let sent = c.send_all.new.sent.items in
    let after = c.insert.new.parsers.items in
    let P : Receiver → Type 0 = λ x. IsColor x → LeadBut r (b ∷ []) (x ∷ []) others sent after in
    let Q : Configuration → Type 0 = λ x. CoverMore (record k { parser = x } ∷ []) after in
    let R : HandedOut → Type 0 = λ x. SendMore (listed x.ended) sent in
    let S : HandedOut → Type 0 = λ x. SendMore (listed x.function) sent in
    subst P c.duplicate-next.ensures
    (λ is. but_color r b k others sent after hex is (subst Q c.take_any_digit-output.ensures.configuration c.in_ok-insert.ensures.held)
    (subst R c.take_any_digit-output.ensures.output c.in_ok-send_all.ensures.ended) (subst S c.take_any_digit-output.ensures.output c.in_ok-send_all.ensures.function))
    c.if-is_color.ensures
