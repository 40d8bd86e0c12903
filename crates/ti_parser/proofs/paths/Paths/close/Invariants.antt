use Rattle.std.proofs.Common.{vec_len}
use Rattle.ti_cap.specs.declared.mode.Mode.{Mode}
use Rattle.ti_expand.specs.State.{State}
use Rattle.ti_parser.specs.Paths.{AreData, IsKnown}
use Rattle.ti_parser.specs.declared.reading.Reception.{Reception}
use Rattle.ti_parser.proofs.paths.Paths.close.Given as goal

abbrev pub invariant-opens : goal.invariant-opens
invariant-opens g l =
    (reading : Reception) (mode : Mode) (s : State) → AreData s
    → IsKnown reading (record { here = record { parsers = l.fn.self.here.parsers.items; tops = l.fn.self.here.tops }; opens = l.fn.self.opens.items; sent = l.fn.self.sent.items }) mode s
    → (now : Mode) × IsKnown reading (record { here = record { parsers = l.self.here.parsers.items; tops = l.self.here.tops }; opens = l.self.opens.items; sent = l.self.sent.items }) now s

abbrev pub decreases-opens : goal.decreases-opens
decreases-opens g l = vec_len l.self.opens
