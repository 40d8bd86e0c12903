use Rattle.ti_tool.proofs.DocumentLemmas.{document_of_file}
use Rattle.ti_tool.proofs.command.document.document_of_file.Goals as goal

pub returns-clause-due : goal.returns-clause-due
returns-clause-due g c =
    document_of_file c.args.document c.args.name.now c.write_document-passed.result c.args.input.now c.args.entry.now c.in_ok-finish.field-0.items _ c.write_document-passed.ensures.verdict
    c.in_ok-finish.ensures.printable c.in_ok-bytes.ensures

pub returns-in-Findings-clause-due : goal.returns-in-Findings-clause-due
returns-in-Findings-clause-due g c = rw c.in-Findings.is c.findings_of_file.ensures
