-- What differs below the index is added.
use Rattle.std.proofs.Common.{map}
use Rattle.std.specs.List.{range_with_len}
use Rattle.ti_words.specs.Items.{StandardSubject}
use Rattle.ti_listing.specs.Differences.{AreTold, IsDifference}
use Rattle.ti_listing.specs.Values.{difference_value}
use Rattle.ti_listing.specs.inner.Differences.{Adds}
use Rattle.ti_listing.proofs.diff.Compared.push_standard.Given as goal

abbrev pub invariant-loop-index : goal.invariant-loop-index
invariant-loop-index g l =
    Adds (AreTold (IsDifference l.self.likeness l.self.one.now l.self.other.now) (map (StandardSubject l.kind) (range_with_len 0 l.index))) (map difference_value l.initial.out.items) (map difference_value l.out.items)
