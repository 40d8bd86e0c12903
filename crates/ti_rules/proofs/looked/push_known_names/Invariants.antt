-- The list has the names so far.
use Rattle.std.proofs.Common.{◌≡◌, ◌++◌, map, take}
use Rattle.std.specs.List.{flat_map}
use Rattle.ti_rules.specs.Controls.{name_of_known, spaced}
use Rattle.ti_rules.specs.inner.Held.{text_held}
use Rattle.ti_rules.proofs.looked.push_known_names.Given as goal

abbrev pub invariant-texts : goal.invariant-texts
invariant-texts g l = l.out.items ≡ l.initial.out.items ++ flat_map (spaced name_of_known) (map text_held (take l.text-index l.texts))
