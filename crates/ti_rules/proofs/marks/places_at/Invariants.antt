-- The places so far are those before the one that is looked at next.
use Rattle.ti_rules.specs.Marks.{IsSought}
use Rattle.ti_rules.proofs.PlacesLemmas.{Placing}
use Rattle.ti_rules.proofs.marks.places_at.Given as goal

abbrev pub invariant-places : goal.invariant-places
invariant-places g l = Placing (IsSought l.text l.fn.sought) l.place l.places.items
