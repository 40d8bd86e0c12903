use Rattle.std.proofs.Common.{length}
use Rattle.ti_parser.proofs.PathsLemmas.{IsAt}
use Rattle.ti_parser.proofs.paths.Paths.pass.Given as goal

abbrev pub invariant-loop-token : goal.invariant-loop-token
invariant-loop-token g l =
    IsAt l.reception l.capability l.tape (record { here = record { parsers = l.self.here.parsers.items; tops = l.self.here.tops }; opens = l.self.opens.items; sent = l.self.sent.items })

abbrev pub decreases-loop-token : goal.decreases-loop-token
decreases-loop-token g l = length l.tape.left
