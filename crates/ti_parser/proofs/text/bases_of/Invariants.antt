use Rattle.std.proofs.Common.{take}
use Rattle.ti_parser.specs.inner.Texts.{AreBases}
use Rattle.ti_parser.proofs.text.bases_of.Given as goal

abbrev pub invariant-loop-receiver : goal.invariant-loop-receiver
invariant-loop-receiver g l = AreBases l.marks l.bases.items (take l.receiver-index l.here)
