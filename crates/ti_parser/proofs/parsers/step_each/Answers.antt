use Rattle.std.proofs.Common.{List, [], ◌∷◌, get_or, refl, subst}
use Rattle.std.specs.Prelude.{if◌then◌else◌}
use Rattle.ti_parser.specs.declared.receiver.Receiver.{Receiver}
use Rattle.ti_parser.specs.inner.Receivers.{Lead}
use Rattle.ti_parser.specs.inner.Texts.{is_text_byte}
use Rattle.ti_parser.proofs.ColorLemmas.{but_more}
use Rattle.ti_parser.proofs.InTextLemmas.{lead_unless}
use Rattle.ti_parser.proofs.LeadLemmas.{cover_same, each_more, each_next, each_whole, lead_more}
use Rattle.ti_parser.proofs.parsers.step_each.Goals as goal

pub loop-byte-preserved : goal.loop-byte-preserved
loop-byte-preserved g c =
    let r = c.args.reception in
    let all = c.args.parsers.now in
    let i = c.loop-byte.byte-index in
    let b = get_or c.args.bytes.now i 0 in
    let others = c.step_text.new.others.items in
    let before = c.loop-byte.after.items in
    let next = c.in_ok-next.next.items in
    let after = c.insert_all.new.parsers.items in
    let sent = c.step_all.new.sent.items in
    let P : List Receiver → Type 0 = λ xs. Lead r (b ∷ []) (if is_text_byte b then xs else all) sent next in
    let Q : List Receiver → Type 0 = λ xs. Lead r (b ∷ []) xs sent next in
    let on : Lead r (b ∷ []) (if is_text_byte b then others else all) sent after =
    lead_more r (b ∷ []) (if is_text_byte b then others else all) next after sent sent (subst P c.deref.ensures.value (subst Q c.unless_text-here.ensures c.in_ok-next.ensures.leads)) (λ f h. h)
    (cover_same c.deref-in-loop-byte.result.now next after c.deref-in-loop-byte.ensures.value c.in_ok-insert_all.ensures.held)
    in
    record {
      kept = λ f h. c.in_ok-next.ensures.kept f (c.loop-byte.invariant.kept f h);
      text = λ y s is. but_more r (y ∷ []) all others others before after s s (c.loop-byte.invariant.text y s is) (λ m h. h) (λ f h. h) c.in_ok-insert_all.ensures.kept;
      leads = each_next r c.args.bytes.now all before after c.loop-byte.sent.items sent i 0 c.loop-byte-test.true c.loop-byte.invariant.leads c.in_ok-next.ensures.kept
          c.in_ok-insert_all.ensures.kept (lead_unless r b all others before after sent sent (is_text_byte b) refl (λ h. c.loop-byte.invariant.text b sent h) (λ f h. h) c.in_ok-insert_all.ensures.kept on);
    }

pub returns-clause-leads : goal.returns-clause-leads
returns-clause-leads g c =
    each_more c.args.reception c.args.bytes.now c.args.parsers.now c.loop-byte.after.items c.in_ok-few.few.items c.loop-byte.sent.items c.loop-byte.sent.items
    (each_whole c.args.reception c.args.bytes.now c.args.parsers.now c.loop-byte.after.items c.loop-byte.sent.items c.loop-byte.byte-index c.loop-byte-test.false c.loop-byte.invariant.leads)
    (λ f h. h) c.in_ok-few.ensures
