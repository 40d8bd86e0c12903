use Rattle.std.proofs.Common.{List, [], ◌∷◌, sym, subst}
use Rattle.ti_parser.specs.inner.Receivers.{CoverMore}
use Rattle.ti_parser.specs.declared.receiver.Receiver.{Receiver}
use Rattle.ti_parser.proofs.SetLemmas.{cover_left, cover_right}
use Rattle.ti_parser.proofs.parsers.insert.Goals as goal

pub returns-in_ok-push-clause-kept : goal.returns-in_ok-push-clause-kept
returns-in_ok-push-clause-kept g c =
    let P : List Receiver → Type 0 = λ all. CoverMore c.args.parsers.now.items all in
    subst P (sym c.in_ok-push.ensures.items) (cover_left c.args.parsers.now.items (c.args.parser ∷ []))

pub returns-in_ok-push-clause-held : goal.returns-in_ok-push-clause-held
returns-in_ok-push-clause-held g c =
    let P : List Receiver → Type 0 = λ all. CoverMore (c.args.parser ∷ []) all in
    subst P (sym c.in_ok-push.ensures.items) (cover_right c.args.parsers.now.items (c.args.parser ∷ []))
