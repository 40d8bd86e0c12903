use Rattle.std.proofs.Common.{◌≡◌, ◌==◌, ◌∙◌, ap, arith, length, subst, sym, vec_len}
use Rattle.ti_forms.specs.Blocks.{HaveObjects}
use Rattle.ti_tool.proofs.command.document.findings.Goals as goal

pub returns : goal.returns
returns g c =
    let remarks = c.in_ok-remarks.remarks in
    let text = c.in_ok-report_json.field-0.items in
    let len : length remarks.items ≡ vec_len remarks = omega (arith, remarks.ok) in (
      text,
      record {
        remarks = remarks.items;
        report = c.in_ok-remarks.ensures.remarks;
        passed_is = c.is_empty-passed.ensures ∙ ap (λ n. n == 0) (sym len);
        told = subst (λ told. HaveObjects told text) c.as_slice.ensures.value c.in_ok-report_json.ensures.told;
        printable = c.in_ok-report_json.ensures.printable;
      },
      c.in_ok-bytes.ensures,
    )
