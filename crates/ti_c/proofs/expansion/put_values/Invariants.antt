use Rattle.std.proofs.Common.{◌≡◌, take}
use Rattle.ti_c.specs.Given.{values_given}
use Rattle.ti_c.proofs.expansion.put_values.Given as goal

abbrev pub invariant-loop-i : goal.invariant-loop-i
invariant-loop-i l = l.values ≡ values_given (take l.i l.parameters)
