use Rattle.std.proofs.Common.{◌≡◌, ◌∙◌, inr, refl, ap, sym, arith, length, subst}
use Rattle.ti_pad.specs.Into.{IsPadIntoFault}
use Rattle.ti_pad.specs.Padded.{padded_text}
use Rattle.ti_pad.specs.declared.slice.PadIntoFault.TheVariants.{TooMuch, OutTooSmall}
use Rattle.ti_c.specs.Padding.{padding_number, told_length}
use Rattle.ti_c.proofs.PaddingLemmas.{few_bytes, told, only, given_length}
use Rattle.ti_c.proofs.padding.ti_pad.Goals as goal

pub returns-in-Ok-clause-only : goal.returns-in-Ok-clause-only
returns-in-Ok-clause-only c = λ number h.
    let f = only c.args.text.now c.args.padding.now c.in-Some.padding _ c.in-Some.ensures.value c.in-Some.ensures.within _ number c.in-Ok.ensures.faults h in
    absurd (cc (f.2))

pub returns-in-Ok-clause-told : goal.returns-in-Ok-clause-told
returns-in-Ok-clause-told c =
    let few = few_bytes (padded_text c.args.text.now c.in-Some.padding) (length c.args.out.now) _ refl c.in-Ok.ensures.faults in
    inr (omega (arith, c.in-Ok.ensures.len, few, given_length c.args.text.now c.args.padding.now c.in-Some.padding c.in-Some.ensures.value))

pub returns-in-Err-TooMuch-clause-answer : goal.returns-in-Err-TooMuch-clause-answer
returns-in-Err-TooMuch-clause-answer c =
    let is = subst (IsPadIntoFault (padded_text c.args.text.now c.in-Some.padding) (length c.args.out.now)) c.in-Err-TooMuch.field-0-is ((c.in-Err-TooMuch.ensures.faults _).0 refl) in
    inr (told c.args.text.now c.args.padding.now c.in-Some.padding _ c.in-Some.ensures.value c.in-Some.ensures.within (TooMuch c.in-Err-TooMuch.need) is)

pub returns-in-Err-TooMuch-clause-only : goal.returns-in-Err-TooMuch-clause-only
returns-in-Err-TooMuch-clause-only c = λ number h.
    let f = only c.args.text.now c.args.padding.now c.in-Some.padding _ c.in-Some.ensures.value c.in-Some.ensures.within _ number c.in-Err-TooMuch.ensures.faults h in
    let same : f.0 ≡ TooMuch c.in-Err-TooMuch.need = cc (f.2, c.in-Err-TooMuch.field-0-is) in
    sym (f.1 ∙ ap padding_number same)

pub returns-in-Err-TooMuch-clause-told : goal.returns-in-Err-TooMuch-clause-told
returns-in-Err-TooMuch-clause-told c =
    let text = padded_text c.args.text.now c.in-Some.padding in
    let is = subst (IsPadIntoFault text (length c.args.out.now)) c.in-Err-TooMuch.field-0-is ((c.in-Err-TooMuch.ensures.faults _).0 refl) in
    inr (c.told_length.ensures ∙ ap told_length (is.0 ∙ given_length c.args.text.now c.args.padding.now c.in-Some.padding c.in-Some.ensures.value))

pub returns-in-Err-OutTooSmall-clause-answer : goal.returns-in-Err-OutTooSmall-clause-answer
returns-in-Err-OutTooSmall-clause-answer c =
    let is = subst (IsPadIntoFault (padded_text c.args.text.now c.in-Some.padding) (length c.args.out.now)) c.in-Err-OutTooSmall.field-0-is ((c.in-Err-OutTooSmall.ensures.faults _).0 refl) in
    inr (told c.args.text.now c.args.padding.now c.in-Some.padding _ c.in-Some.ensures.value c.in-Some.ensures.within (OutTooSmall c.in-Err-OutTooSmall.need) is)

pub returns-in-Err-OutTooSmall-clause-only : goal.returns-in-Err-OutTooSmall-clause-only
returns-in-Err-OutTooSmall-clause-only c = λ number h.
    let f = only c.args.text.now c.args.padding.now c.in-Some.padding _ c.in-Some.ensures.value c.in-Some.ensures.within _ number c.in-Err-OutTooSmall.ensures.faults h in
    let same : f.0 ≡ OutTooSmall c.in-Err-OutTooSmall.need = cc (f.2, c.in-Err-OutTooSmall.field-0-is) in
    sym (f.1 ∙ ap padding_number same)

pub returns-in-Err-OutTooSmall-clause-told : goal.returns-in-Err-OutTooSmall-clause-told
returns-in-Err-OutTooSmall-clause-told c =
    let text = padded_text c.args.text.now c.in-Some.padding in
    let is = subst (IsPadIntoFault text (length c.args.out.now)) c.in-Err-OutTooSmall.field-0-is ((c.in-Err-OutTooSmall.ensures.faults _).0 refl) in
    inr (omega (arith, is.0, is.1, given_length c.args.text.now c.args.padding.now c.in-Some.padding c.in-Some.ensures.value))
