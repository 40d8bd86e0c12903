use Rattle.std.proofs.Common.{◌++◌, ◌∙◌, [], ◌∷◌, ap, sym}
use Rattle.ti_parser.proofs.PathsLemmas.{end_more, end_none}
use Rattle.ti_parser.proofs.paths.end.Goals as goal

pub returns-in_ok-push-2 : goal.returns-in_ok-push-2
returns-in_ok-push-2 g c =
    end_more c.args.receiver.now c.args.ends.now.items c.push.new.self.items (c.in_ok-push.ensures.items ∙ ap (λ x. c.args.ends.now.items ++ x ∷ []) c.duplicate.ensures)

pub returns-else-can_end : goal.returns-else-can_end
returns-else-can_end g c = end_none c.args.receiver.now c.args.ends.now.items (sym c.if-can_end.ensures)
