-- The list has the sets so far.
use Rattle.std.proofs.Common.{◌≡◌, ◌++◌, map}
use Rattle.ti_values.specs.declared.tried.Tried.TheVariants.{Attributes}
use Rattle.ti_values.specs.Ranges.{numbers}
use Rattle.ti_values.proofs.range.push_sets.Given as goal

abbrev pub invariant-sets : goal.invariant-sets
invariant-sets g l = l.list.items ≡ l.initial.list.items ++ map (λ set. Attributes set) (numbers 0 l.set)
