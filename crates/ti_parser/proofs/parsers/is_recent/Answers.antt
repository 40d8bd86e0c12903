use Rattle.std.proofs.Common.{◌≡◌, ◌-◌, List, [], ◌∷◌, length, take, drop, subst}
use Rattle.ti_parser.specs.Covers.{SendMore}
use Rattle.ti_parser.specs.declared.function.Function.{Function}
use Rattle.ti_parser.proofs.SetLemmas.{sent_at, sent_take, sent_drop}
use Rattle.ti_parser.proofs.parsers.is_recent.Goals as goal

pub returns-then-is_same : goal.returns-then-is_same
returns-then-is_same c =
    let e : c.known-item.result ≡ c.args.function.now = c.if-is_same.ensures in
    let all = c.args.sent.now in
    let start = c.saturating_sub.result in
    let recent : List Function = take (length all - start) (drop start all) in
    let P : Function → Type 0 = λ x. SendMore (x ∷ []) all in
    subst P e (λ f h. sent_drop start all f (sent_take (length all - start) (drop start all) f
    (sent_at recent c.loop-known.known-index c.known-item.result c.loop-known-test.true c.known-item.is f h)))
