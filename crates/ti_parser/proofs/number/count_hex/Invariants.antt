use Rattle.std.proofs.Common.{take}
use Rattle.ti_parser.specs.inner.Colors.{AreHex}
use Rattle.ti_parser.proofs.number.count_hex.Given as goal

abbrev pub invariant-loop-at : goal.invariant-loop-at
invariant-loop-at l = AreHex (take l.at l.bytes)
