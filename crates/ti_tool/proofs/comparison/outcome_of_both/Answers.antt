use Rattle.ti_tool.proofs.ComparisonLemmas.{both_entries, other_refused}
use Rattle.ti_tool.proofs.comparison.outcome_of_both.Goals as goal

pub returns-in-Err-read-clause-led : goal.returns-in-Err-read-clause-led
returns-in-Err-read-clause-led g c =
    other_refused _ _ (λ o. o.bytes.items) (λ o. o.line.items) (λ o. o.status) c.args.has_advice c.args.pair.now.likeness c.args.pair.now.form c.args.pair.now.file.now c.args.pair.now.other.now c.refusal_outcome-in-Err-read.result c.args.contents.now c.args.of_other.now
    c.in-Ok.entry c.in-Ok.ensures.found c.refusal_outcome-in-Err-read.ensures.led

pub returns-clause-led : goal.returns-clause-led
returns-clause-led g c =
    both_entries _ _ (λ o. o.bytes.items) (λ o. o.line.items) (λ o. o.status) c.args.has_advice c.args.pair.now.likeness c.args.pair.now.form c.args.pair.now.file.now c.args.pair.now.other.now c.difference_outcome.result c.args.contents.now c.args.of_other.now
    c.in-Ok.entry c.in-Ok-read.entry c.in-Ok.ensures.found c.in-Ok-read.ensures.found c.difference_outcome.ensures.led
