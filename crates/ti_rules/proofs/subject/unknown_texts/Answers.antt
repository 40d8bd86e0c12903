use Rattle.ti_words.specs.Items.{listed_value}
use Rattle.ti_entry.proofs.ItemsLemmas.{flat_end, flat_next}
use Rattle.ti_rules.specs.Subjects.{unknown_text}
use Rattle.ti_rules.specs.inner.Held.{unknowns_held}
use Rattle.ti_rules.proofs.subject.unknown_texts.Goals as goal

pub items-preserved : goal.items-preserved
items-preserved g c =
    flat_next unknown_text (listed_value (c.in-Some.subject, c.in-Some.item)) c.items.items c.next.new.self (unknowns_held c.items.texts.items) (unknowns_held c.add_unknown.new.texts.items) _
    c.in-Some.ensures.some c.in_ok-add_unknown.ensures c.items.invariant

pub returns : goal.returns
returns g c = flat_end unknown_text c.items.items (unknowns_held c.items.texts.items) _ c.in_default.ensures.none.0 c.items.invariant
