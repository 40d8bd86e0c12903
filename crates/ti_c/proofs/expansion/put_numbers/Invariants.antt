use Rattle.std.proofs.Common.{◌≡◌, take}
use Rattle.std.specs.Bool.{OnFalse}
use Rattle.ti_expand.specs.State.{values_of}
use Rattle.ti_expand.specs.Expands.{AreShort}
use Rattle.ti_c.specs.Given.{values_given}
use Rattle.ti_c.proofs.expansion.put_numbers.Given as goal

abbrev pub invariant-loop-i : goal.invariant-loop-i
invariant-loop-i l = record {
  values : OnFalse l.found (values_of l.numbers ≡ values_given (take l.i l.parameters));
  short : OnFalse l.found (AreShort (values_given (take l.i l.parameters)) 0);
}
