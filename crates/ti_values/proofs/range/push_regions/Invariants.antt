-- The list has the regions of the lines so far.
use Rattle.std.proofs.Common.{◌≡◌, ◌+◌, ◌++◌}
use Rattle.std.specs.List.{flat_map}
use Rattle.ti_values.specs.Ranges.{numbers, pairs}
use Rattle.ti_values.proofs.range.push_regions.Given as goal

abbrev pub invariant-tops : goal.invariant-tops
invariant-tops g l = l.list.items ≡ l.initial.list.items ++ flat_map (λ top. pairs top (top + 1) l.lines) (numbers 0 l.top)
