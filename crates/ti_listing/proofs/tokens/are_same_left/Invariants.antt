-- What is left is the same exactly if what was there is.
use Rattle.std.proofs.Common.{length}
use Rattle.std.specs.Prelude.{◌↔◌}
use Rattle.ti_listing.proofs.TokensLemmas.{GiveSame}
use Rattle.ti_listing.proofs.tokens.are_same_left.Given as goal

abbrev pub invariant-tokens : goal.invariant-tokens
invariant-tokens l = GiveSame l.initial.one.left l.initial.other.left ↔ GiveSame l.one.left l.other.left

abbrev pub decreases-tokens : goal.decreases-tokens
decreases-tokens l = length l.one.left
