-- The list has the numbers so far, and if there are none the count stays where it starts.
use Rattle.std.proofs.Common.{◌≡◌, ◌++◌, ◌<◌, map}
use Rattle.ti_values.specs.declared.tried.Tried.TheVariants.{Number}
use Rattle.ti_values.specs.Ranges.{numbers}
use Rattle.ti_values.proofs.range.push_numbers.Given as goal

abbrev pub invariant-numbers : goal.invariant-numbers
invariant-numbers g l = (l.list.items ≡ l.initial.list.items ++ map (λ n. Number n) (numbers l.from l.number)) × (l.end < l.from → l.number ≡ l.from)
