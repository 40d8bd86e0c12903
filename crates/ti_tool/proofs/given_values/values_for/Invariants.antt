use Rattle.std.proofs.Common.{◌≡◌, length, take}
use Rattle.ti_tool.specs.Got.{AreTakenFrom}
use Rattle.ti_tool.proofs.given_values.values_for.Given as goal

-- the first values are those of the first parameters
abbrev pub invariant-loop-i : goal.invariant-loop-i
invariant-loop-i l = record {
  same : length l.values ≡ length l.fn.params;
  taken : AreTakenFrom l.capability 1 (take l.i l.fn.params) l.values;
}
