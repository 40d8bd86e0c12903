use Rattle.ti_tool.proofs.ComparisonLemmas.{both_read, first_unread, other_unread}
use Rattle.ti_tool.proofs.comparison.outcome_of_pair.Goals as goal

pub returns-in-Err-clause-led : goal.returns-in-Err-clause-led
returns-in-Err-clause-led g c =
    first_unread (λ o. o.bytes.items) (λ o. o.line.items) (λ o. o.status) (g.S.Store.known c.args.store.now) c.args.has_advice c.args.pair.now (g.R.Read.remaining c.args.input.now) (g.R.Read.remaining c.contents_of.new.input) (g.R.Read.remaining c.contents_of.new.input)
    c.refused_outcome.result c.refused_outcome.ensures.led

pub returns-in-Err-contents_of-clause-led : goal.returns-in-Err-contents_of-clause-led
returns-in-Err-contents_of-clause-led g c =
    other_unread (λ o. o.bytes.items) (λ o. o.line.items) (λ o. o.status) (g.S.Store.known c.args.store.now) c.args.has_advice c.args.pair.now (g.R.Read.remaining c.args.input.now) (g.R.Read.remaining c.contents_of.new.input) (g.R.Read.remaining c.contents_of-2.new.input)
    c.refused_outcome-in-Err-contents_of.result c.in-Ok.contents.items c.in-Ok.ensures.read c.refused_outcome-in-Err-contents_of.ensures.led

pub returns-clause-led : goal.returns-clause-led
returns-clause-led g c =
    both_read (λ o. o.bytes.items) (λ o. o.line.items) (λ o. o.status) (g.S.Store.known c.args.store.now) c.args.has_advice c.args.pair.now (g.R.Read.remaining c.args.input.now) (g.R.Read.remaining c.contents_of.new.input) (g.R.Read.remaining c.contents_of-2.new.input)
    c.outcome_of_both.result c.in-Ok.contents.items c.in-Ok-contents_of.contents.items c.as_slice.result.now c.as_slice-2.result.now c.in-Ok.ensures.read c.in-Ok-contents_of.ensures.read c.as_slice.ensures.value c.as_slice-2.ensures.value
    c.outcome_of_both.ensures.led
