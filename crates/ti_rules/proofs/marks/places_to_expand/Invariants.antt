-- The places so far are those of the tokens so far that are meant to be expanded.
use Rattle.std.proofs.Common.{◌≡◌, length}
use Rattle.ti_lint.specs.Plain.{IsMeantToExpand}
use Rattle.ti_rules.proofs.MarkedLemmas.{Marking}
use Rattle.ti_rules.proofs.marks.places_to_expand.Given as goal

abbrev pub invariant-tokens : goal.invariant-tokens
invariant-tokens g l = record {
  marking : Marking (λ spot token. IsMeantToExpand token) l.fn.capability l.tape l.places.items;
  place : l.place ≡ length l.tape.taken;
}

abbrev pub decreases-tokens : goal.decreases-tokens
decreases-tokens g l = length l.tape.left
