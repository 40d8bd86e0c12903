use Rattle.std.proofs.lemmas.Result.{IfOk-weaker}
use Rattle.ti_forms.specs.Blocks.{AreBlocks}
use Rattle.ti_forms.proofs.BlocksLemmas.{alone, none_alike}
use Rattle.ti_forms.proofs.lines.report_lines.Goals as goal

pub returns-clause-none : goal.returns-clause-none
returns-clause-none g c =
    let prefix = c.args.prefix.now in
    let remarks = c.args.remarks.now in
    let page = c.write_blocks.new.page in
    IfOk-weaker c.finish.result _ _
    (λ lines written.
    none_alike prefix remarks lines.items
    (alone (AreBlocks prefix remarks) c.new-page.result.bytes page.bytes lines.items c.new-page.ensures.bytes (c.write_blocks.ensures.added written.1) written.0))
    c.finish.ensures.written
