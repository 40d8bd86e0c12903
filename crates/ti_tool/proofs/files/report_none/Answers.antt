use Rattle.std.proofs.Common.{◌∙◌, sym}
use Rattle.ti_tool.proofs.FileRunsLemmas.{lines_end, none_ends}
use Rattle.ti_tool.proofs.ToldLemmas.{told_by}
use Rattle.ti_tool.proofs.files.report_none.Goals as goal

pub returns-then-is_empty-clause-told : goal.returns-then-is_empty-clause-told
returns-then-is_empty-clause-told g c = λ left held. none_ends c.args.lines.now left held _ c.args.status (sym c.is_empty.ensures ∙ c.if-is_empty.true)

pub returns-clause-told : goal.returns-clause-told
returns-clause-told g c = λ left held.
    lines_end c.args.lines.now left held _ _ c.args.status c.greater.result (sym c.is_empty.ensures ∙ c.if-is_empty.false)
    (told_by c.args.lines.now _ _ c.write_out.result c.write_out.ensures.written c.write_out.ensures.short c.write_out.ensures.gone) c.greater.ensures.value
