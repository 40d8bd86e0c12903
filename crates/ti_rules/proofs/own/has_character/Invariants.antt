-- The rest has one exactly if all has.
use Rattle.std.proofs.Common.{◌≡◌, length}
use Rattle.ti_rules.specs.Own.{has_character}
use Rattle.ti_rules.proofs.own.has_character.Given as goal

abbrev pub invariant-bytes : goal.invariant-bytes
invariant-bytes l = has_character l.rest ≡ has_character l.text

abbrev pub decreases-bytes : goal.decreases-bytes
decreases-bytes l = length l.rest
