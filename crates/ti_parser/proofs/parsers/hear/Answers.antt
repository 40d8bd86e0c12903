use Rattle.ti_parser.proofs.HearLemmas.{lead_heard}
use Rattle.ti_parser.proofs.parsers.hear.Goals as goal

pub returns-clause-leads : goal.returns-clause-leads
returns-clause-leads g c =
    lead_heard c.args.reception c.args.byte c.args.receiver.now c.go_on.new.sent.items c.go_on.new.after.items
    (λ e m h. c.in_ok-go_on.ensures.kept m (c.in_ok-begin.ensures.begins e m h)) c.in_ok-go_on.ensures.moves
