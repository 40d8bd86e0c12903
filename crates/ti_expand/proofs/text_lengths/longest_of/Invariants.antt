use Rattle.std.proofs.Common.{take}
use Rattle.ti_expand.specs.Expands.{AreShort}
use Rattle.ti_expand.proofs.text_lengths.longest_of.Given as goal

abbrev pub invariant-loop-i : goal.invariant-loop-i
invariant-loop-i l = AreShort (take l.i l.parameters) l.longest
