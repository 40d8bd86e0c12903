-- The places so far go on to those of all.
use Rattle.ti_rules.proofs.PlacesOfLemmas.{Going}
use Rattle.ti_rules.proofs.marks.places_of.Given as goal

abbrev pub invariant-founds : goal.invariant-founds
invariant-founds g l = Going l.fn.finding l.founds l.found-index l.places.items
