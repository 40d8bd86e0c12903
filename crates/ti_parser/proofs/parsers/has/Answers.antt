use Rattle.ti_parser.proofs.SetLemmas.{cover_at}
use Rattle.ti_parser.proofs.parsers.has.Goals as goal

pub returns-then-stands_for : goal.returns-then-stands_for
returns-then-stands_for c = λ m h. cover_at c.args.parsers.now c.loop-known.known-index c.known-item.result c.loop-known-test.true c.known-item.is m (c.if-stands_for.ensures m h)
