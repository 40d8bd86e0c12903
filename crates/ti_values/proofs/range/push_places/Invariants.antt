-- The list has the lines so far.
use Rattle.std.proofs.Common.{◌≡◌, ◌++◌}
use Rattle.std.specs.List.{flat_map}
use Rattle.ti_values.specs.Ranges.{numbers, pairs}
use Rattle.ti_values.proofs.range.push_places.Given as goal

abbrev pub invariant-lines : goal.invariant-lines
invariant-lines g l = l.list.items ≡ l.initial.list.items ++ flat_map (λ line. pairs line 0 l.columns) (numbers 0 l.line)
