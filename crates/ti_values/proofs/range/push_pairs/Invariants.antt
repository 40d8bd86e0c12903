-- The list has the numbers so far, and if there are none the count stays where it starts.
use Rattle.std.proofs.Common.{◌≡◌, ◌++◌, ◌<◌, map}
use Rattle.ti_values.specs.declared.tried.Tried.TheVariants.{Two}
use Rattle.ti_values.specs.Ranges.{numbers}
use Rattle.ti_values.proofs.range.push_pairs.Given as goal

abbrev pub invariant-seconds : goal.invariant-seconds
invariant-seconds g l = (l.list.items ≡ l.initial.list.items ++ map (λ second. Two l.first second) (numbers l.from l.second)) × (l.end < l.from → l.second ≡ l.from)
