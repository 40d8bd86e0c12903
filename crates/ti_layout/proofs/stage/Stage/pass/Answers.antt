use Rattle.std.proofs.Common.{◌≤◌, ◌+◌, ◌*◌, ◌∙◌, length, ap, subst, sym}
use Rattle.ti_base.specs.Limits.{most_entry_bytes}
use Rattle.ti_layout.specs.declared.section.SectionItems.{SectionItems}
use Rattle.ti_layout.specs.declared.section.Section.{Section}
use Rattle.ti_layout.specs.declared.stage.Stage.{Stage}
use Rattle.ti_layout.specs.Refusal.{item_size, items_of}
use Rattle.ti_layout.specs.Stages.{Reached, Stands, at_front}
use Rattle.ti_layout.proofs.StageStepLemmas.{stands_now, section_passes}
use Rattle.ti_layout.proofs.stage.Stage.pass.Goals as goal

pub items-items-requires-clause-fits : goal.items-items-requires-clause-fits
items-items-requires-clause-fits c = (stands_now c.args.bytes.now (at_front c.args.self.now) c.requires.stands).fits

pub items-items-requires-clause-extended_fits : goal.items-items-requires-clause-extended_fits
items-items-requires-clause-extended_fits c = (stands_now c.args.bytes.now (at_front c.args.self.now) c.requires.stands).extended_fits

pub pass-requires : goal.pass-requires
pass-requires c =
    let s = c.args.self.now in
    let P : SectionItems → Type 0 = λ it. it.at + item_size it.item * it.left ≤ most_entry_bytes in
    let same = ap (λ (t : Section). items_of t s.standard s.extended) c.requires.here ∙ sym c.items-items.ensures in
    subst P same (stands_now c.args.bytes.now (at_front s) c.requires.stands).within

pub closing_end-requires-clause-fits : goal.closing_end-requires-clause-fits
closing_end-requires-clause-fits c = (stands_now c.args.bytes.now (at_front c.args.self.now) c.requires.stands).fits

pub closing_end-requires-clause-extended_fits : goal.closing_end-requires-clause-extended_fits
closing_end-requires-clause-extended_fits c = (stands_now c.args.bytes.now (at_front c.args.self.now) c.requires.stands).extended_fits

pub close-requires-clause-fits : goal.close-requires-clause-fits
close-requires-clause-fits c = (stands_now c.args.bytes.now (at_front c.args.self.now) c.requires.stands).fits

pub close-requires-clause-extended_fits : goal.close-requires-clause-extended_fits
close-requires-clause-extended_fits c = (stands_now c.args.bytes.now (at_front c.args.self.now) c.requires.stands).extended_fits

pub close-requires-clause-named : goal.close-requires-clause-named
close-requires-clause-named c = λ e.
    let s = c.args.self.now in
    subst (λ (t : Section). Reached t (length c.args.bytes.now) s.standard s.extended) (c.requires.here ∙ e) (stands_now c.args.bytes.now (at_front s) c.requires.stands).reached

pub returns-in_default-clause-stands : goal.returns-in_default-clause-stands
returns-in_default-clause-stands c =
    let s = c.args.self.now in
    let here = subst (λ (t : Section). Stands c.args.bytes.now (at_front (record s { section = t }))) c.requires.here c.requires.stands in
    subst (λ (t : Stage). Stands c.args.bytes.now (at_front t)) (sym c.in_default.ensures.same) here

pub returns-clause-stands : goal.returns-clause-stands
returns-clause-stands c =
    let s = c.args.self.now in
    let here = subst (λ (t : Section). Stands c.args.bytes.now (at_front (record s { section = t }))) c.requires.here c.requires.stands in
    let items = rw c.items-items.ensures at c.if-not-pass.ensures in
    rw (c.next-self.ensures, c.in-Ok.ensures.kept) (section_passes c.args.bytes.now (record s { section = c.args.section }) here items c.in-Ok.ensures.verdict)
