use Rattle.std.proofs.Common.{◌≡◌, ◌∙◌, inl, inr, Some, length, take, refl, ap, subst, arith}
use Rattle.ti_words.specs.Spelling.{Spells}
use Rattle.ti_words.specs.Value.{EntryValue}
use Rattle.ti_draft.specs.EncodeFaults.{encode_fault, IsEncodeIntoFault}
use Rattle.ti_draft.specs.declared.fault.EncodeFault.{EncodeFault}
use Rattle.ti_draft.specs.declared.fault.EncodeIntoFault.{EncodeIntoFault}
use Rattle.ti_c.specs.Encoding.{IsUnwrittenEntry}
use Rattle.ti_c.specs.Numbers.{encode_number}
use Rattle.ti_c.proofs.EncodingLemmas.{entry_back, never_memory}
use Rattle.ti_c.proofs.encoding.ti_encode.Goals as goal

pub returns-in-Ok-clause-again : goal.returns-in-Ok-clause-again
returns-in-Ok-clause-again c = λ _ bytes v spelled items.
    let P : EntryValue → Type 0 = λ x. Spells (take c.in-Ok.count c.encode_into.new.out) x in
    subst P (c.given_entry-entry.ensures ∙ entry_back c.args.arrays.now c.args.counts.now c.args.number_bits bytes v spelled items) c.in-Ok.ensures.encoded.spells

pub returns-in-Err-Refused-clause-answer : goal.returns-in-Err-Refused-clause-answer
returns-in-Err-Refused-clause-answer c =
    let v = c.given_entry-entry.result in
    let F : EncodeIntoFault → Type 0 = λ fault. IsEncodeIntoFault v (length c.args.out.now) fault in
    let refused : encode_fault v ≡ Some c.in-Err-Refused.fault = subst F c.in-Err-Refused.field-0-is c.in-Err-Refused.ensures.refused in
    let number : encode_number c.in-Err-Refused.fault ≡ Some c.encode_number.result = elim c.encode_number.ensures [
      | inl e ↦ e
      | inr memory ↦ absurd (never_memory v (refused ∙ ap (λ (fault : EncodeFault). Some fault) memory))
    ] in
    let P : EntryValue → Type 0 = λ x. IsUnwrittenEntry x (length c.args.out.now) c.encode_number.result c.args.written.now in
    inr (inr (c.has_items.ensures.0 c.if-not-has_items.false, subst P c.given_entry-entry.ensures (inl (c.in-Err-Refused.fault, refused, number))))

pub returns-in-Err-OutTooSmall-clause-answer : goal.returns-in-Err-OutTooSmall-clause-answer
returns-in-Err-OutTooSmall-clause-answer c =
    let F : EncodeIntoFault → Type 0 = λ fault. IsEncodeIntoFault c.given_entry-entry.result (length c.args.out.now) fault in
    let small = subst F c.in-Err-OutTooSmall.field-0-is c.in-Err-OutTooSmall.ensures.refused in
    let P : EntryValue → Type 0 = λ x. IsUnwrittenEntry x (length c.args.out.now) 203 c.in-Err-OutTooSmall.need in
    inr (inr (c.has_items.ensures.0 c.if-not-has_items.false, subst P c.given_entry-entry.ensures (inr (small.0, omega (arith, small.1, small.2), refl, small.1))))
