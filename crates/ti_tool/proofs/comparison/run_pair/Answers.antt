use Rattle.std.proofs.Common.{◌≡◌}
use Rattle.ti_tool.specs.Streams.{streams}
use Rattle.ti_tool.proofs.ComparisonLemmas.{ran_difference}
use Rattle.ti_tool.proofs.DidLineLemmas.{pair_writes}
use Rattle.ti_tool.proofs.comparison.run_pair.Goals as goal

pub returns-clause-ran : goal.returns-clause-ran
returns-clause-ran g c =
    ran_difference (λ o. o.bytes.items) (λ o. o.line.items) (λ o. o.status) (g.S.Store.known c.args.store.now) c.args.has_advice c.args.pair.now
    (streams (g.R.Read.remaining c.args.input.now) (g.W.Write.contents c.args.output.now) (g.E.Write.contents c.args.errors.now))
    (streams (g.R.Read.remaining c.outcome_of_pair-outcome.new.input) (g.W.Write.contents c.deliver_outcome.new.output) (g.E.Write.contents c.deliver_outcome.new.errors))
    c.outcome_of_pair-outcome.result c.deliver_outcome.result c.unwrap_or.result (c.deliver_outcome.new.output ≡ c.args.output.now) c.outcome_of_pair-outcome.ensures.led c.deliver_outcome.ensures.delivered c.unwrap_or.ensures c.deliver_outcome.ensures.unwritten

pub returns-clause-unwritten : goal.returns-clause-unwritten
returns-clause-unwritten g c = pair_writes c.deliver_outcome.result (c.deliver_outcome.new.output ≡ c.args.output.now) c.unwrap_or.result c.unwrap_or.ensures c.deliver_outcome.ensures.unwritten
