use Rattle.std.proofs.Common.{◌-◌, inl, inr, length, take, refl, subst, arith, length-take-le}
use Rattle.ti_pad.specs.Into.{IsPadIntoFault}
use Rattle.ti_pad.specs.Padded.{padded_text}
use Rattle.ti_c.proofs.SendingLemmas.{only_unsent, too_much_unsent, too_small_unsent}
use Rattle.ti_c.proofs.sending.put_marked.Goals as goal

pub overflow_add-sent : goal.overflow_add-sent
overflow_add-sent c =
    let is = subst (IsPadIntoFault (padded_text (take c.args.written c.args.out.now) c.args.padding.now) (length c.args.out.now - c.args.written)) c.in-Err-OutTooSmall.field-0-is ((c.in-Err-OutTooSmall.ensures.faults _).0 refl) in
    omega (arith, is.0, is.1, c.requires, c.fits-sent)

pub returns-in-Ok-clause-only : goal.returns-in-Ok-clause-only
returns-in-Ok-clause-only c = λ number need h.
    let output = take c.args.written c.args.out.now in
    elim (only_unsent output (padded_text output c.args.padding.now) (length c.args.out.now) c.args.written (length-take-le c.args.written c.args.out.now c.requires) c.requires _ number need c.in-Ok.ensures.faults h) [
      | inl f ↦ absurd (cc (f.0))
      | inr f ↦ absurd (cc (f.0))
    ]

pub returns-in-Err-TooMuch-clause-answer : goal.returns-in-Err-TooMuch-clause-answer
returns-in-Err-TooMuch-clause-answer c =
    let output = take c.args.written c.args.out.now in
    let padded = padded_text output c.args.padding.now in
    let is = subst (IsPadIntoFault padded (length c.args.out.now - c.args.written)) c.in-Err-TooMuch.field-0-is ((c.in-Err-TooMuch.ensures.faults _).0 refl) in
    rw c.told_length-sent.ensures (inr (too_much_unsent output padded (length c.args.out.now) c.args.written (length-take-le c.args.written c.args.out.now c.requires) c.requires c.in-Err-TooMuch.need is))

pub returns-in-Err-TooMuch-clause-only : goal.returns-in-Err-TooMuch-clause-only
returns-in-Err-TooMuch-clause-only c = λ number need h.
    let output = take c.args.written c.args.out.now in
    elim (only_unsent output (padded_text output c.args.padding.now) (length c.args.out.now) c.args.written (length-take-le c.args.written c.args.out.now c.requires) c.requires _ number need c.in-Err-TooMuch.ensures.faults h) [
      | inl f ↦ (cc, cc (f.0, f.2, c.in-Err-TooMuch.field-0-is, c.told_length-sent.ensures))
      | inr f ↦ absurd (cc (f.0, c.in-Err-TooMuch.field-0-is))
    ]

pub returns-in-Err-OutTooSmall-clause-answer : goal.returns-in-Err-OutTooSmall-clause-answer
returns-in-Err-OutTooSmall-clause-answer c =
    let output = take c.args.written c.args.out.now in
    let padded = padded_text output c.args.padding.now in
    let is = subst (IsPadIntoFault padded (length c.args.out.now - c.args.written)) c.in-Err-OutTooSmall.field-0-is ((c.in-Err-OutTooSmall.ensures.faults _).0 refl) in
    inr (too_small_unsent output padded (length c.args.out.now) c.args.written (length-take-le c.args.written c.args.out.now c.requires) c.requires c.in-Err-OutTooSmall.need is)

pub returns-in-Err-OutTooSmall-clause-only : goal.returns-in-Err-OutTooSmall-clause-only
returns-in-Err-OutTooSmall-clause-only c = λ number need h.
    let output = take c.args.written c.args.out.now in
    elim (only_unsent output (padded_text output c.args.padding.now) (length c.args.out.now) c.args.written (length-take-le c.args.written c.args.out.now c.requires) c.requires _ number need c.in-Err-OutTooSmall.ensures.faults h) [
      | inl f ↦ absurd (cc (f.0, c.in-Err-OutTooSmall.field-0-is))
      | inr f ↦ (cc, cc (f.0, f.2, c.in-Err-OutTooSmall.field-0-is))
    ]
