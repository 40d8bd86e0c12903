use Rattle.std.proofs.Common.{◌+◌}
use Rattle.ti_values.specs.Ranges.{pairs}
use Rattle.ti_values.proofs.NumbersLemmas.{added_more}
use Rattle.ti_values.proofs.range.push_regions.Goals as goal

pub tops-preserved : goal.tops-preserved
tops-preserved g c =
    added_more (λ top. pairs top (top + 1) c.args.lines) c.tops.top _ _ _ c.tops.invariant c.in_ok-push_pairs.ensures
