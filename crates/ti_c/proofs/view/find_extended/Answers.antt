use Rattle.std.proofs.Common.{◌∙◌, ℕ, ap, subst}
use Rattle.std.specs.Prelude.{Some}
use Rattle.ti_words.specs.declared.Kind.{Kind}
use Rattle.ti_words.specs.Value.{NamedPart, EntryValue}
use Rattle.ti_entry.specs.Finding.{IsFirstNamed}
use Rattle.ti_entry.specs.declared.finding.Position.TheVariants.{Extended}
use Rattle.ti_c.specs.Views.{item_shown, value_at}
use Rattle.ti_c.proofs.view.find_extended.Goals as goal

pub returns-in-Some-find-clause-found : goal.returns-in-Some-find-clause-found
returns-in-Some-find-clause-found c = λ v opened _.
    let at : Kind × ℕ = (c.in-Some-find.kind, c.in-Some-find.index) in
    let entry = c.in-Some.ensures v opened in
    let part = c.extended.ensures ∙ ap (λ (x : EntryValue). x.extended) entry in
    let named = subst (λ (p : NamedPart). IsFirstNamed p c.args.name.now (Some at)) part c.in-Some-find.ensures in
    (at, named, c.put_item.ensures ∙ ap item_shown c.item_at.ensures ∙ ap (λ (x : EntryValue). value_at x (Extended c.in-Some-find.kind c.in-Some-find.index)) entry)
