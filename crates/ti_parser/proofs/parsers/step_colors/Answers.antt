use Rattle.std.proofs.Common.{[], ◌∷◌, take}
use Rattle.ti_parser.proofs.ColorLemmas.{but_more, but_next}
use Rattle.ti_parser.proofs.parsers.step_colors.Goals as goal

pub loop-parser-init : goal.loop-parser-init
loop-parser-init g c = record { kept = λ f h. h; leads = λ r b is rest x h. absurd h }

pub loop-parser-preserved : goal.loop-parser-preserved
loop-parser-preserved g c =
    let all = c.args.parsers.now in
    let i = c.loop-parser.parser-index in
    let x = c.parser-item.result in
    let others = c.hear_color.new.others.items in
    let after = c.hear_color.new.after.items in
    let sent = c.hear_color.new.sent.items in
    record {
      kept = λ f h. c.in_ok-hear_color.ensures.sent f (c.loop-parser.invariant.kept f h);
      leads = λ r b is. but_next r (b ∷ []) all others after sent i x c.loop-parser-test.true c.parser-item.is
          (but_more r (b ∷ []) (take i all) c.loop-parser.others.items others c.loop-parser.after.items after c.loop-parser.sent.items sent
          (c.loop-parser.invariant.leads r b is) c.in_ok-hear_color.ensures.others c.in_ok-hear_color.ensures.sent c.in_ok-hear_color.ensures.kept)
          (c.in_ok-hear_color.ensures.leads r b is);
    }
