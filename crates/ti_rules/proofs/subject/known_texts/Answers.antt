use Rattle.ti_words.specs.Items.{listed_value}
use Rattle.ti_entry.proofs.ItemsLemmas.{flat_end, flat_next}
use Rattle.ti_rules.specs.Subjects.{known_text}
use Rattle.ti_rules.specs.inner.Held.{texts_held}
use Rattle.ti_rules.proofs.subject.known_texts.Goals as goal

pub items-preserved : goal.items-preserved
items-preserved g c =
    flat_next known_text (listed_value (c.in-Some.subject, c.in-Some.item)) c.items.items c.next.new.self (texts_held c.items.texts.items) (texts_held c.add_text.new.texts.items) _
    c.in-Some.ensures.some c.in_ok-add_text.ensures c.items.invariant

pub returns : goal.returns
returns g c = flat_end known_text c.items.items (texts_held c.items.texts.items) _ c.in_default.ensures.none.0 c.items.invariant
