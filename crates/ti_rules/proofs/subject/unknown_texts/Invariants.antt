-- The texts so far go on to those of all capabilities.
use Rattle.std.proofs.Common.{◌≡◌, ◌++◌, length}
use Rattle.std.specs.List.{flat_map}
use Rattle.ti_rules.specs.Subjects.{unknown_text, unknown_texts}
use Rattle.ti_rules.specs.inner.Held.{unknowns_held}
use Rattle.ti_rules.proofs.subject.unknown_texts.Given as goal

abbrev pub invariant-items : goal.invariant-items
invariant-items g l = unknowns_held l.texts.items ++ flat_map unknown_text l.items ≡ unknown_texts l.entry

abbrev pub decreases-items : goal.decreases-items
decreases-items g l = length l.items
