use Rattle.std.proofs.Common.{◌≡◌, ◌∙◌, ◌||◌, ap, drop, sym, true, false}
use Rattle.ti_values.specs.Sequences.{escape_len, is_printable, shows_after}
use Rattle.ti_values.proofs.ShownLemmas.{shows_byte, shows_nothing, shows_sequence}
use Rattle.ti_values.proofs.sequence.has_shown.Goals as goal

pub bytes-preserved-then-byte-eq-ESCAPE : goal.bytes-preserved-then-byte-eq-ESCAPE
bytes-preserved-then-byte-eq-ESCAPE c =
    let all = c.in-Some.ensures.cases.0 in
    let left : c.past-rest.result.now ≡ drop (escape_len c.in-Some.after.now) c.in-Some.after.now =
    c.past-rest.ensures ∙ ap (λ n. drop n c.in-Some.after.now) c.escape_len.ensures in
    ap (shows_after 0) left ∙ sym (shows_sequence c.bytes.rest.now c.in-Some.byte.now c.in-Some.after.now all c.if-byte-eq-ESCAPE.true) ∙ c.bytes.invariant

pub returns-then-is_printable : goal.returns-then-is_printable
returns-then-is_printable c =
    let here : is_printable c.in-Some.byte.now ≡ true = sym c.is_printable.ensures ∙ c.if-is_printable.true in
    sym (sym c.bytes.invariant ∙ shows_byte c.bytes.rest.now c.in-Some.byte.now c.in-Some.after.now c.in-Some.ensures.cases.0 c.if-byte-eq-ESCAPE.false
    ∙ ap (λ b. b || shows_after 0 c.in-Some.after.now) here)

pub bytes-preserved : goal.bytes-preserved
bytes-preserved c =
    let here : is_printable c.in-Some.byte.now ≡ false = sym c.is_printable.ensures ∙ c.if-is_printable.false in
    sym (shows_byte c.bytes.rest.now c.in-Some.byte.now c.in-Some.after.now c.in-Some.ensures.cases.0 c.if-byte-eq-ESCAPE.false
    ∙ ap (λ b. b || shows_after 0 c.in-Some.after.now) here)
    ∙ c.bytes.invariant

pub returns : goal.returns
returns c = sym (shows_nothing c.bytes.rest.now c.in_default.ensures.cases) ∙ c.bytes.invariant
