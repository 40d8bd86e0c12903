use Rattle.std.proofs.Common.{◌≡◌, ◌==◌, ◌∙◌, ap, arith, length, subst, sym, vec_len}
use Rattle.ti_forms.specs.Blocks.{HaveObjects}
use Rattle.ti_rules.specs.Lines.{Adds}
use Rattle.ti_forms.proofs.BlocksLemmas.{back}
use Rattle.ti_tool.proofs.DocumentLemmas.{findings_of_file}
use Rattle.ti_tool.proofs.command.document.findings_of_file.Goals as goal

pub returns : goal.returns
returns g c =
    let remarks = c.in_ok-remarks.remarks in
    let before = c.key.new.self.bytes in
    let told = c.print_remarks.new.printer in
    let ended = c.end.new.self in
    let len : length remarks.items ≡ vec_len remarks = omega (arith, remarks.ok) in
    let fits = back told.is_misused ended.is_misused c.end.ensures.is_misused (sym c.is_misused.ensures ∙ c.if-is_misused.false) in
    let held = back told.is_refused ended.is_refused c.end.ensures.is_refused c.in_ok-finish.ensures.refused in
    findings_of_file c.args.options c.args.name.now c.is_empty-passed.result c.args.input.now c.args.entry.now remarks.items before told.bytes c.in_ok-finish.field-0.items c.in_ok-bytes.bytes.items
    c.in_ok-remarks.ensures.remarks (c.is_empty-passed.ensures ∙ ap (λ n. n == 0) (sym len))
    (subst (λ xs. Adds (HaveObjects xs) before told.bytes) c.as_slice.ensures.value (c.print_remarks.ensures.told.added held fits))
    (λ start first. c.in_ok-finish.ensures.written start (c.end.ensures.front start first)) c.in_ok-finish.ensures.printable c.in_ok-bytes.ensures
