use Rattle.std.proofs.Common.{◌≡◌, ◌∙◌, ℕ, List, ap, subst, sym}
use Rattle.ti_values.specs.declared.range.Range.TheVariants.{Attributes}
use Rattle.ti_values.specs.declared.tried.Tried.{Tried}
use Rattle.ti_values.specs.Ranges.{values}
use Rattle.ti_values.specs.Sent.{AreSent, texts_of}
use Rattle.ti_rules.specs.inner.Growing.{Gains}
use Rattle.ti_rules.specs.Values.{AreAttributesRemarks}
use Rattle.ti_rules.proofs.report.Report.push_of_attributes.Goals as goal

pub returns : goal.returns
returns g c =
    let s = c.args.subject.now in
    let sent = texts_of c.as_slice-sent.result.now in
    let tried : c.as_slice-tried.result.now ≡ values Attributes = c.as_slice-tried.ensures.value ∙ c.in_ok-all.ensures.all in
    let P : List Tried → Type 0 = λ t. Gains (AreAttributesRemarks c.args.self.now.on.entry (record { name = s.name.now; text = s.text.now; tried = t; sent = sent })) c.args.self.now c.push_attributes_remarks-2.new.self in
    let Q : List Tried → Type 0 = λ t. AreSent s.text.now t sent in
    let R : List ℕ → Type 0 = λ text. AreSent text c.as_slice-tried.result.now sent in
    let T : List (List ℕ) → Type 0 = λ all. AreSent c.args.capability.now c.as_slice-tried.result.now all in
    let are = subst Q tried (subst R c.requires (subst T (sym (ap texts_of c.as_slice-sent.ensures.value)) c.in_ok-list.ensures.all)) in
    let (kept, (remarks, report, so)) = subst P tried c.in_ok-push_attributes_remarks.ensures in
    (kept, (remarks, (sent, are, report), so))
