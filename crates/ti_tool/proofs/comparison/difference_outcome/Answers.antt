use Rattle.std.proofs.Common.{◌≡◌, ◌∙◌, arith, length, map, sym, vec_len}
use Rattle.ti_listing.specs.Values.{difference_value}
use Rattle.ti_tool.proofs.ComparisonLemmas.{high_status, low_status}
use Rattle.ti_tool.proofs.comparison.difference_outcome.Goals.{then-is_empty, else-is_empty}
use Rattle.ti_tool.proofs.comparison.difference_outcome.Goals as goal

pub returns-clause-led : goal.returns-clause-led
returns-clause-led g c =
    let len : length c.in_ok-differences.differences.items ≡ vec_len c.in_ok-differences.differences = omega (arith, c.in_ok-differences.differences.ok) in (
      map difference_value c.in_ok-differences.differences.items,
      c.in_ok-differences.ensures.all,
      c.in_ok-bytes.ensures,
      c.new.ensures.items,
      elim c.if-is_empty.branch [
        | then-is_empty w ↦ w.status-is ∙ low_status difference_value c.in_ok-differences.differences.items _ len (sym c.is_empty.ensures ∙ w.if-is_empty.true)
        | else-is_empty w ↦ w.status-is ∙ high_status difference_value c.in_ok-differences.differences.items _ len (sym c.is_empty.ensures ∙ w.if-is_empty.false)
      ],
    )
