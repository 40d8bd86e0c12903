use Rattle.std.proofs.Common.{◌∙◌, ap, drop, sym}
use Rattle.ti_words.specs.Items.{items, listed_value}
use Rattle.ti_words.specs.Value.{EntryValue}
use Rattle.ti_c.proofs.ListedLemmas.{first_dropped, none_dropped}
use Rattle.ti_c.proofs.view.ti_view_item.Goals as goal

pub returns-in-Some-next-clause-found : goal.returns-in-Some-next-clause-found
returns-in-Some-next-clause-found c = λ v opened _.
    let place = c.args.place in
    let entry = c.in-Some.ensures v opened in
    let listed = listed_value (c.in-Some-next.subject, c.in-Some-next.item) in
    let left = sym (c.items_from-items.ensures ∙ ap (λ (x : EntryValue). drop place (items x)) entry) ∙ c.in-Some-next.ensures.some in
    (listed, first_dropped (items v) place listed c.next.new.self left, c.put_subject.ensures, c.put_item.ensures)

pub returns-in-None-clause-none : goal.returns-in-None-clause-none
returns-in-None-clause-none c = λ v opened _.
    let entry = c.in-Some.ensures v opened in
    none_dropped (items v) c.args.place (sym (c.items_from-items.ensures ∙ ap (λ (x : EntryValue). drop c.args.place (items x)) entry) ∙ c.in-None.ensures.none.0)
