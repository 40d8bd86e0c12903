use Rattle.std.proofs.Common.{◌++◌, ◌∙◌, [], ◌∷◌, ap, refl}
use Rattle.ti_parser.specs.Paths.{Point, Waiting}
use Rattle.ti_parser.proofs.paths.Paths.turn.Goals as goal

pub returns-clause-opens : goal.returns-clause-opens
returns-clause-opens g c =
    let rest = c.pop_open.new.opens.items in
    let failed : Point = record { parsers = c.in_ok-failed.failed.parsers.items; tops = c.in_ok-failed.failed.tops } in
    let done : Point = record { parsers = c.in_ok-failed.done.parsers.items; tops = c.in_ok-failed.done.tops } in
    let now : Point = record { parsers = c.in_ok-done.done.parsers.items; tops = c.in_ok-done.done.tops } in
    let none : Point = record { parsers = c.nowhere.result.parsers.items; tops = c.nowhere.result.tops } in
    let after : Waiting = record { failed = none; done = now } in
    record {
      opens = record {
        rest = rest;
        before = record { failed = failed; done = done };
        after = after;
        old_is = c.in_ok-failed.ensures;
        new_is = c.in_ok-push_open.ensures ∙ ap (λ x. rest ++ x ∷ []) c.new.ensures;
      };
      failed = refl;
      done = c.in_ok-done.ensures.left;
      here_done = c.in_ok-done.ensures.right;
    }
