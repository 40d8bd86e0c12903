-- The keys so far are those of the texts so far.
use Rattle.std.proofs.Common.{◌≡◌, map, take}
use Rattle.std.specs.List.{flat_map}
use Rattle.ti_rules.specs.Keys.{keys_in}
use Rattle.ti_rules.specs.inner.Held.{text_held}
use Rattle.ti_rules.specs.inner.Lent.{keys_lent}
use Rattle.ti_rules.proofs.keys.keys_of.Given as goal

abbrev pub invariant-texts : goal.invariant-texts
invariant-texts g l = keys_lent l.keys.items ≡ flat_map keys_in (map text_held (take l.text-index l.texts))
