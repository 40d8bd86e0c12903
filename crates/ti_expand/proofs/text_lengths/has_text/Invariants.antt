use Rattle.std.proofs.Common.{take}
use Rattle.std.specs.Bool.{OnFalse}
use Rattle.ti_expand.specs.Expands.{AreShort}
use Rattle.ti_expand.proofs.text_lengths.has_text.Given as goal

abbrev pub invariant-loop-value : goal.invariant-loop-value
invariant-loop-value l = OnFalse l.found (AreShort (take l.value-index l.parameters) 0)
