-- A text that is a capability is not refused, and one that is refused is none.
use Rattle.std.proofs.Common.{List, ℕ, subst, sym}
use Rattle.ti_allow.specs.Harmless.{OnlyTableAlways}
use Rattle.ti_allow.specs.declared.allowed.TheConstants.{ALLOWED}
use Rattle.ti_rules.specs.Controls.{Keeps}
use Rattle.ti_rules.specs.declared.sending.Sending.{Sending}
use Rattle.ti_rules.specs.inner.Held.{sending_held}
use Rattle.ti_rules.proofs.OneReportLemmas.{passes}
use Rattle.ti_rules.proofs.sending.found_in.Goals as goal

pub returns-in_ok-found-in-Ok : goal.returns-in_ok-found-in-Ok
returns-in_ok-found-in-Ok g c = λ silent.
    let name = c.args.name.now in
    let text = c.in-Expanded.text.now in
    let Only : List ℕ → Type 0 = λ bytes. OnlyTableAlways ALLOWED name bytes in
    let only = subst Only c.in-Ok.ensures.value (c.in_ok-found-in-Ok.ensures.only_table silent) in
    let P : Sending → Type 0 = λ s. Keeps name (sending_held s) in
    subst P (sym c.in-Expanded.is) ((λ sound. only), (λ refused why. absurd (passes text refused c.in-Ok.ensures.accepted why)))

pub returns-in_ok-found-in-Err : goal.returns-in_ok-found-in-Err
returns-in_ok-found-in-Err g c = λ silent.
    let name = c.args.name.now in
    let text = c.in-Expanded.text.now in
    let P : Sending → Type 0 = λ s. Keeps name (sending_held s) in
    subst P (sym c.in-Expanded.is)
    ((λ sound. absurd (passes text c.in-Err.field-0 sound c.in-Err.ensures.refused)), (λ refused why. c.in_ok-found-in-Err.ensures.only_table silent))
