use Rattle.std.proofs.Common.{take}
use Rattle.std.specs.Bool.{OnFalse}
use Rattle.ti_c.specs.Given.{values_given}
use Rattle.ti_expand.specs.Expands.{AreShort}
use Rattle.ti_c.proofs.expansion.has_text.Given as goal

abbrev pub invariant-loop-parameter : goal.invariant-loop-parameter
invariant-loop-parameter l = OnFalse l.found (AreShort (values_given (take l.parameter-index l.parameters)) 0)
