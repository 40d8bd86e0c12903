-- The names from the index on are still to be added, and the set has those that are there.
use Rattle.std.proofs.Common.{◌≡◌, drop, map}
use Rattle.ti_entry.specs.Finding.{names_of}
use Rattle.ti_listing.specs.Differences.{with_new}
use Rattle.ti_listing.specs.inner.Names.{IsSetOf}
use Rattle.ti_listing.proofs.extended_names.push_new.Given as goal

abbrev pub invariant-names : goal.invariant-names
invariant-names g l = record {
  rest : with_new (map (λ one. one.now) l.names.items) (drop l.index (names_of l.extended l.kind)) ≡ with_new (map (λ one. one.now) l.initial.names.items) (names_of l.extended l.kind);
  set : IsSetOf (map (λ one. one.now) l.names.items) l.kept;
}
