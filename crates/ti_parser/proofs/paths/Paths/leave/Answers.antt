use Rattle.ti_parser.specs.Paths.{Point}
use Rattle.ti_parser.proofs.paths.Paths.leave.Goals as goal

pub returns-clause-opens : goal.returns-clause-opens
returns-clause-opens g c =
    let failed : Point = record { parsers = c.in_ok-failed.failed.parsers.items; tops = c.in_ok-failed.failed.tops } in
    let done : Point = record { parsers = c.in_ok-failed.done.parsers.items; tops = c.in_ok-failed.done.tops } in
    record {
      inner = record { failed = failed; done = done };
      old_is = c.in_ok-failed.ensures;
      ran = c.in_ok-all.ensures.right;
      failed = λ d stack covered tops. let p = c.in_ok-waited.ensures.left d stack covered tops in c.in_ok-all.ensures.left d stack p.0 p.1;
      done = λ d stack covered tops. let p = c.in_ok-waited.ensures.right d stack covered tops in c.in_ok-all.ensures.left d stack p.0 p.1;
    }
