use Rattle.std.proofs.Common.{List, [], ◌∷◌, take, subst}
use Rattle.ti_parser.specs.declared.receiver.Receiver.{Receiver}
use Rattle.ti_parser.specs.inner.Colors.{LeadBut}
use Rattle.ti_parser.proofs.ColorLemmas.{but_more, but_next}
use Rattle.ti_parser.proofs.SpreadLemmas.{take_whole}
use Rattle.ti_parser.proofs.settled.step_text.Goals as goal

pub loop-parser-init : goal.loop-parser-init
loop-parser-init g c = record { leads = λ r b s is rest x h. absurd h }

pub loop-parser-preserved : goal.loop-parser-preserved
loop-parser-preserved g c =
    let all = c.args.parsers.now in
    let i = c.loop-parser.parser-index in
    let x = c.parser-item.result in
    let others = c.hear_text.new.others.items in
    let after = c.hear_text.new.after.items in
    record {
      leads = λ r b sent is. but_next r (b ∷ []) all others after sent i x c.loop-parser-test.true c.parser-item.is
          (but_more r (b ∷ []) (take i all) c.loop-parser.others.items others c.loop-parser.after.items after sent sent
          (c.loop-parser.invariant.leads r b sent is) c.in_ok-hear_text.ensures.others (λ f h. h) c.in_ok-hear_text.ensures.kept)
          (c.in_ok-hear_text.ensures.leads r b sent is);
    }

pub returns : goal.returns
returns g c = record {
  leads = λ r b s is. let P : List Receiver → Type 0 = λ xs. LeadBut r (b ∷ []) xs c.loop-parser.others.items s c.loop-parser.after.items in
      subst P (take_whole c.args.parsers.now c.loop-parser.parser-index c.loop-parser-test.false) (c.loop-parser.invariant.leads r b s is);
}
