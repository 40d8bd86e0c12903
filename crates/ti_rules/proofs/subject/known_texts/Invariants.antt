-- The texts so far go on to those of all capabilities.
use Rattle.std.proofs.Common.{◌≡◌, ◌++◌, length}
use Rattle.std.specs.List.{flat_map}
use Rattle.ti_rules.specs.Subjects.{known_text, known_texts}
use Rattle.ti_rules.specs.inner.Held.{texts_held}
use Rattle.ti_rules.proofs.subject.known_texts.Given as goal

abbrev pub invariant-items : goal.invariant-items
invariant-items g l = texts_held l.texts.items ++ flat_map known_text l.items ≡ known_texts l.entry

abbrev pub decreases-items : goal.decreases-items
decreases-items g l = length l.items
