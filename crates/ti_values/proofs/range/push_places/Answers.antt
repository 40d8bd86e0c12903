use Rattle.ti_values.specs.Ranges.{pairs}
use Rattle.ti_values.proofs.NumbersLemmas.{added_more}
use Rattle.ti_values.proofs.range.push_places.Goals as goal

pub lines-preserved : goal.lines-preserved
lines-preserved g c =
    added_more (λ line. pairs line 0 c.args.columns) c.lines.line _ _ _ c.lines.invariant c.in_ok-push_pairs.ensures
