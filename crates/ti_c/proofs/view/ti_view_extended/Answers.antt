use Rattle.std.proofs.Common.{◌≡◌, ◌∙◌, ap, sym}
use Rattle.std.specs.Prelude.{Some, slice_get}
use Rattle.ti_words.specs.Value.{NamedPart, EntryValue}
use Rattle.ti_entry.specs.Finding.{names_of}
use Rattle.ti_entry.specs.declared.finding.Position.TheVariants.{Extended}
use Rattle.ti_c.specs.Names.{kind_at}
use Rattle.ti_c.specs.Views.{item_shown, value_at}
use Rattle.ti_c.proofs.view.ti_view_extended.Goals as goal

pub returns-in-Some-clause-found : goal.returns-in-Some-clause-found
returns-in-Some-clause-found c = λ v opened _.
    let entry = c.in-Some-Some.ensures v opened in
    let kind : kind_at c.args.kind ≡ Some c.in-Some-Some.kind = sym c.kind_of.ensures ∙ c.in-Some-Some.is-1 in
    rw kind (
      sym (c.in-Some.ensures ∙ ap (λ (p : NamedPart). slice_get (names_of p c.in-Some-Some.kind) c.args.index) (c.extended.ensures ∙ ap (λ (x : EntryValue). x.extended) entry)),
      c.put_item.ensures ∙ ap item_shown c.item_at.ensures ∙ ap (λ (x : EntryValue). value_at x (Extended c.in-Some-Some.kind c.args.index)) entry,
    )

pub returns-in-None-clause-none : goal.returns-in-None-clause-none
returns-in-None-clause-none c = λ v opened _.
    let entry = c.in-Some-Some.ensures v opened in
    let kind : kind_at c.args.kind ≡ Some c.in-Some-Some.kind = sym c.kind_of.ensures ∙ c.in-Some-Some.is-1 in
    rw kind (sym (c.in-None.ensures ∙ ap (λ (p : NamedPart). slice_get (names_of p c.in-Some-Some.kind) c.args.index) (c.extended.ensures ∙ ap (λ (x : EntryValue). x.extended) entry)))
