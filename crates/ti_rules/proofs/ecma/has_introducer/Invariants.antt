-- The rest has one exactly if all has.
use Rattle.std.proofs.Common.{◌≡◌, length}
use Rattle.ti_rules.specs.Controls.{has_introducer}
use Rattle.ti_rules.proofs.ecma.has_introducer.Given as goal

abbrev pub invariant-text : goal.invariant-text
invariant-text l = has_introducer l.rest ≡ has_introducer l.text

abbrev pub decreases-text : goal.decreases-text
decreases-text l = length l.rest
