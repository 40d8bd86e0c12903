use Rattle.std.proofs.Common.{◌∙◌, sym}
use Rattle.ti_forms.proofs.BlocksLemmas.{told_of}
use Rattle.ti_forms.proofs.document.report_json.Goals as goal

pub returns-clause-told : goal.returns-clause-told
returns-clause-told g c =
    let printer = c.print_remarks.new.printer in
    told_of c.finish.result (λ bytes. bytes.items) c.args.remarks.now c.new-printer.result.bytes printer.bytes printer.is_refused c.new-printer.ensures.bytes
    (λ ok. c.print_remarks.ensures.told.added ok (sym c.is_misused.ensures ∙ c.if-is_misused.false)) c.finish.ensures.written c.finish.ensures.refused
