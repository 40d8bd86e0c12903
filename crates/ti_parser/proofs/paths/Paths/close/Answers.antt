use Rattle.std.proofs.Common.{◌≡◌, length, arith}
use Rattle.std.proofs.lemmas.Grind.{common_steps}
use Rattle.ti_parser.specs.Paths.{Known}
use Rattle.ti_parser.proofs.KnowsLemmas.{knows_end}
use Rattle.ti_parser.proofs.PathsLemmas.{all_run, no_opens}
use Rattle.ti_parser.proofs.paths.Paths.close.Goals as goal

pub opens-preserved : goal.opens-preserved
opens-preserved g c = λ reading mode s texts h.
    let before : Known = record { here = record { parsers = c.opens.self.here.parsers.items; tops = c.opens.self.here.tops }; opens = c.opens.self.opens.items; sent = c.opens.self.sent.items } in
    let after : Known = record { here = record { parsers = c.leave.new.self.here.parsers.items; tops = c.leave.new.self.here.tops }; opens = c.leave.new.self.opens.items; sent = c.leave.new.self.sent.items } in
    let known = c.opens.invariant reading mode s texts h in
    knows_end reading before after c.in_ok-leave.ensures.opens c.in_ok-leave.ensures.sent known.0 s texts known.1

pub returns : goal.returns
returns g c = λ reception mode s texts h.
    let after : Known = record { here = record { parsers = c.opens.self.here.parsers.items; tops = c.opens.self.here.tops }; opens = c.opens.self.opens.items; sent = c.opens.self.sent.items } in
    let known = c.opens.invariant reception mode s texts h in
    let none : length c.opens.self.opens.items ≡ 0 = grind (arith, common_steps, c.is_empty.ensures, c.opens-test.false) in
    all_run reception after known.0 s (no_opens c.opens.self.opens.items none) known.1
