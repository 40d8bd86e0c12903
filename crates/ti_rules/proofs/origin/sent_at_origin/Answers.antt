use Rattle.std.proofs.Common.{List, ℕ, inr, subst, sym}
use Rattle.ti_values.specs.Ranges.{parameters_of}
use Rattle.ti_values.specs.Sent.{IsShort, Sends}
use Rattle.ti_values.specs.declared.tried.Tried.TheVariants.{Number}
use Rattle.ti_rules.proofs.origin.sent_at_origin.Goals as goal

pub returns-then-not-is_short : goal.returns-then-not-is_short
returns-then-not-is_short g c =
    let e = c.in-Ok.ensures in
    let P : List ℕ → Type 0 = λ text. IsShort text in
    inr (e.accepted, λ short. cc (c.is_short.ensures.exact.1 (subst P (sym e.value) short), c.if-not-is_short.true))

pub returns-in_ok-sent-in-Ok : goal.returns-in_ok-sent-in-Ok
returns-in_ok-sent-in-Ok g c =
    let e = c.in-Ok.ensures in
    let sent = c.in_ok-sent-in-Ok.sent.items in
    let P : List ℕ → Type 0 = λ text. IsShort text in
    let Q : List ℕ → Type 0 = λ text. Sends text (parameters_of (Number 0)) sent in
    inr (e.accepted, (subst P e.value (c.is_short.ensures.exact.0 c.if-not-is_short.false), subst Q e.value c.in_ok-sent-in-Ok.ensures.all))
