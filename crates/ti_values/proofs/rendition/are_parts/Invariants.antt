-- What is left has renditions and shifts alone exactly if all does.
use Rattle.std.proofs.Common.{◌≡◌, length}
use Rattle.ti_values.specs.Renditions.{are_parts}
use Rattle.ti_values.proofs.rendition.are_parts.Given as goal

abbrev pub invariant-parts : goal.invariant-parts
invariant-parts l = are_parts l.rest ≡ are_parts l.bytes

abbrev pub decreases-parts : goal.decreases-parts
decreases-parts l = length l.rest
