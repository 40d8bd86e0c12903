use Rattle.std.proofs.Common.{arith}
use Rattle.ti_words.specs.Items.{item_value}
use Rattle.ti_entry.proofs.ItemsLemmas.{at_end, extended_next, standard_next}
use Rattle.ti_entry.proofs.items.Items.next.Goals as goal

pub returns-then-place-before-clause-some : goal.returns-then-place-before-clause-some
returns-then-place-before-clause-some c =
    standard_next c.self.inside.entry.now c.standard-part.result c.args.self.now c.self.inside.place c.count-before.result c.at-kind.result.0 c.at-kind.result.1 (item_value c.item_of-item.result)
    c.self.view_is c.standard-part.ensures c.count-before.ensures.exact (omega (arith, c.if-place-before.true)) c.at-kind.ensures c.item_of-item.ensures.value

pub returns-then-place-before-2-clause-none : goal.returns-then-place-before-2-clause-none
returns-then-place-before-2-clause-none c =
    let end = at_end c.self.inside.entry.now c.standard-part.result c.without_names-without_names.result c.extended-extended.result c.args.self.now c.self.inside.place c.count-before.result c.count.result
    c.self.view_is c.standard-part.ensures c.count-before.ensures.exact (omega (arith, c.if-place-before.false)) c.extended-extended.ensures c.without_names-without_names.ensures c.count.ensures.exact
    (omega (arith, c.if-place-before-2.true)) in
    (end, end)

pub returns-clause-some : goal.returns-clause-some
returns-clause-some c =
    extended_next c.self.inside.entry.now c.standard-part.result c.without_names-without_names.result c.extended-extended.result c.args.self.now c.self.inside.place c.count-before.result c.count.result
    c.at-kind-2.result.0 c.at-kind-2.result.1 c.name_or_empty-name.result.now (item_value c.item_of-item-2.result)
    c.self.view_is c.standard-part.ensures c.count-before.ensures.exact (omega (arith, c.if-place-before.false)) c.extended-extended.ensures c.without_names-without_names.ensures c.count.ensures.exact
    (omega (arith, c.if-place-before-2.false)) c.at-kind-2.ensures c.name_or_empty-name.ensures c.item_of-item-2.ensures.value
