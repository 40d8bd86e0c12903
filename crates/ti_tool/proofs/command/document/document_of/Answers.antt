use Rattle.ti_tool.proofs.DocumentLemmas.{rows_text}
use Rattle.ti_tool.proofs.command.document.document_of.Goals as goal

pub returns-clause-due : goal.returns-clause-due
returns-clause-due g c =
    let text = c.in_ok-finish.field-0.items in (
      text,
      rows_text c.args.document c.write_document-passed.result c.args.input.now c.args.entry.now text c.write_document-passed.ensures.verdict c.in_ok-finish.ensures.printable,
      c.in_ok-bytes.ensures,
    )
