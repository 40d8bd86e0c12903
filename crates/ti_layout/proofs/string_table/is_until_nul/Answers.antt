use Rattle.std.proofs.Common.{sym, ◌∙◌}
use lib.Pointwise.{bytes_decides}
use Rattle.ti_layout.proofs.UntilNulLemmas.{told_by_front}
use Rattle.ti_layout.proofs.string_table.is_until_nul.Goals as goal

pub returns : goal.returns
returns c =
    let p = told_by_front c.args.bytes.now c.args.text.now c.min.result c.min.ensures in
    let equal = bytes_decides c.until_nul.result.now c.args.text.now in (
      λ t. p.0 (sym c.until_nul.ensures ∙ equal.0 (sym c.eq.ensures ∙ t)),
      λ h. c.eq.ensures ∙ equal.1 (c.until_nul.ensures ∙ p.1 h),
    )
