use Rattle.std.proofs.Common.{List, ℕ, [], ◌∷◌, subst}
use Rattle.ti_parser.specs.inner.Forms.{characters}
use Rattle.ti_parser.specs.inner.Receivers.{EachLeads, Lead}
use Rattle.ti_parser.proofs.DataLemmas.{one_character}
use Rattle.ti_parser.proofs.LeadLemmas.{each_one}
use Rattle.ti_parser.proofs.write.write_any.Goals as goal

pub returns-in_ok-after-in_default-clause-leads : goal.returns-in_ok-after-in_default-clause-leads
returns-in_ok-after-in_default-clause-leads g c = λ byte h.
    let here = c.args.here.now in
    let sent = c.step_any.new.sent.items in
    let after = c.in_ok-after-in_default.after.items in
    let P : List ℕ → Type 0 = λ xs. EachLeads c.args.reception xs here sent after in
    let Q : ℕ → Type 0 = λ x. Lead c.args.reception (x ∷ []) here sent after in
    each_one Q (characters c.args.character) byte (subst P c.characters.ensures c.in_ok-after-in_default.ensures.leads) (one_character c.args.character byte c.in_default.not-Any h)
