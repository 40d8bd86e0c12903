-- For no value so far is a number below 0 printed.
use Rattle.std.proofs.Common.{ℕ, ◌<◌, get_or}
use Rattle.ti_values.specs.Negative.{PrintsNegative}
use Rattle.ti_values.specs.Ranges.{parameters_of}
use Rattle.ti_values.specs.declared.tried.Tried.TheVariants.{Number}
use Rattle.ti_values.proofs.negative.first_negative.Given as goal

abbrev pub invariant-values : goal.invariant-values
invariant-values g l = (k : ℕ) → k < l.place → ¬ PrintsNegative l.capability (parameters_of (get_or l.values k (Number 0)))
