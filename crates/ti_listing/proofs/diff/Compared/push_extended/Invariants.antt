-- What differs of the names before the index is added.
use Rattle.std.proofs.Common.{map, take}
use Rattle.ti_words.specs.Items.{ExtendedSubject}
use Rattle.ti_listing.specs.Differences.{AreTold, IsDifference}
use Rattle.ti_listing.specs.Values.{difference_value}
use Rattle.ti_listing.specs.inner.Differences.{Adds}
use Rattle.ti_listing.proofs.diff.Compared.push_extended.Given as goal

abbrev pub invariant-loop-index : goal.invariant-loop-index
invariant-loop-index g l =
    Adds (AreTold (IsDifference l.self.likeness l.self.one.now l.self.other.now) (map (ExtendedSubject l.kind) (take l.index (map (λ one. one.now) l.names.items)))) (map difference_value l.initial.out.items) (map difference_value l.out.items)
