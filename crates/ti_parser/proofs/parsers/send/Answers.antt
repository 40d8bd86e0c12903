use Rattle.std.proofs.Common.{List, [], ◌∷◌, sym, subst}
use Rattle.ti_parser.specs.Covers.{SendMore}
use Rattle.ti_parser.specs.declared.function.Function.{Function}
use Rattle.ti_parser.proofs.SetLemmas.{sent_left, sent_right}
use Rattle.ti_parser.proofs.parsers.send.Goals as goal

pub returns-in_ok-push-clause-kept : goal.returns-in_ok-push-clause-kept
returns-in_ok-push-clause-kept g c =
    let P : List Function → Type 0 = λ all. SendMore c.args.sent.now.items all in
    subst P (sym c.in_ok-push.ensures.items) (sent_left c.args.sent.now.items (c.args.function ∷ []))

pub returns-in_ok-push-clause-held : goal.returns-in_ok-push-clause-held
returns-in_ok-push-clause-held g c =
    let P : List Function → Type 0 = λ all. SendMore (c.args.function ∷ []) all in
    subst P (sym c.in_ok-push.ensures.items) (sent_right c.args.sent.now.items (c.args.function ∷ []))
