-- The map has where each name is first among those from the index on.
use Rattle.std.proofs.Common.{ℕ, List, drop}
use Rattle.ti_entry.specs.Finding.{names_of}
use Rattle.ti_listing.specs.inner.Names.{index_of}
use Rattle.ti_listing.proofs.NamesLemmas.{IsFirstFrom}
use Rattle.ti_listing.proofs.first_named.first_indices.Given as goal

abbrev pub invariant-names : goal.invariant-names
invariant-names g l = (name : List ℕ) → IsFirstFrom l.index (drop l.index (names_of l.extended l.kind)) name (index_of l.firsts name)
