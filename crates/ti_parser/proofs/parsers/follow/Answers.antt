use Rattle.std.proofs.Common.{List, [], ◌∷◌, get_or, subst}
use Rattle.ti_parser.specs.inner.Receivers.{Lead}
use Rattle.ti_parser.specs.declared.receiver.Receiver.{Receiver}
use Rattle.ti_parser.proofs.LeadLemmas.{lead_byte, lead_nothing}
use Rattle.ti_parser.proofs.parsers.follow.Goals as goal

pub loop-byte-init : goal.loop-byte-init
loop-byte-init g c = record {
  kept = λ f h. h;
  leads = lead_nothing c.args.reception c.args.parsers.now c.insert_all.new.parsers.items c.args.sent.now.items c.in_ok-insert_all.ensures.held;
}

pub loop-byte-preserved : goal.loop-byte-preserved
loop-byte-preserved g c =
    let P : List Receiver → Type 0 = λ x. Lead c.args.reception (get_or c.args.bytes.now c.loop-byte.byte-index 0 ∷ []) x c.step_all.new.sent.items c.in_ok-now.now.items in
    record {
      kept = λ f h. c.in_ok-now.ensures.kept f (c.loop-byte.invariant.kept f h);
      leads = lead_byte c.args.reception c.args.bytes.now c.loop-byte.byte-index 0 c.args.parsers.now c.loop-byte.now.items c.in_ok-now.now.items c.loop-byte.sent.items
          c.step_all.new.sent.items c.loop-byte-test.true c.loop-byte.invariant.leads c.in_ok-now.ensures.kept (subst P c.deref.ensures.value c.in_ok-now.ensures.leads);
    }
