use Rattle.std.proofs.Common.{◌≡◌, length, take, ap, sym, arith, length-take-le}
use Rattle.ti_pad.specs.Padded.{padded_text}
use Rattle.ti_c.proofs.SendingLemmas.{unmarked_sent}
use Rattle.ti_c.proofs.sending.put_padded.Goals as goal

pub returns-then-is_sent_as_it_is-clause-only : goal.returns-then-is_sent_as_it_is-clause-only
returns-then-is_sent_as_it_is-clause-only c = λ number need h.
    let output = take c.args.written c.args.out.now in
    let e = c.if-is_sent_as_it_is.ensures in
    let long : length output ≡ c.args.written = length-take-le c.args.written c.args.out.now c.requires in
    absurd (unmarked_sent output (padded_text output c.args.padding.now) (length c.args.out.now) number need (e.same c.args.padding.now)
    (omega (arith, e.room, long)) (omega (arith, e.few, long)) h)

pub returns-then-is_sent_as_it_is-clause-text : goal.returns-then-is_sent_as_it_is-clause-text
returns-then-is_sent_as_it_is-clause-text c = λ _. sym (c.if-is_sent_as_it_is.ensures.same c.args.padding.now)

pub returns-then-is_sent_as_it_is-clause-len : goal.returns-then-is_sent_as_it_is-clause-len
returns-then-is_sent_as_it_is-clause-len c = λ _.
    omega (arith, length-take-le c.args.written c.args.out.now c.requires, ap length (c.if-is_sent_as_it_is.ensures.same c.args.padding.now))
