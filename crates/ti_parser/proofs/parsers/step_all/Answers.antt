use Rattle.std.proofs.Common.{[], ◌∷◌, take}
use Rattle.ti_parser.proofs.LeadLemmas.{lead_more, lead_next}
use Rattle.ti_parser.proofs.parsers.step_all.Goals as goal

pub loop-parser-preserved : goal.loop-parser-preserved
loop-parser-preserved g c =
    let all = c.args.parsers.now in
    let i = c.loop-parser.parser-index in
    let x = c.parser-item.result in
    let after = c.hear.new.after.items in
    let sent = c.hear.new.sent.items in
    record {
      kept = λ f h. c.in_ok-hear.ensures.sent f (c.loop-parser.invariant.kept f h);
      leads = lead_next c.args.reception (c.args.byte ∷ []) all after sent i x c.loop-parser-test.true c.parser-item.is
          (lead_more c.args.reception (c.args.byte ∷ []) (take i all) c.loop-parser.after.items after c.loop-parser.sent.items sent
          c.loop-parser.invariant.leads c.in_ok-hear.ensures.sent c.in_ok-hear.ensures.kept)
          c.in_ok-hear.ensures.leads;
    }
