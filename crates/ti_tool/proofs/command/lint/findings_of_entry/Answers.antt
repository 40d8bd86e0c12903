use Rattle.std.proofs.Common.{◌≡◌, ◌==◌, ◌∙◌, ap, arith, length, subst, sym, vec_len}
use Rattle.ti_forms.specs.Blocks.{AreBlocks}
use Rattle.ti_tool.proofs.command.lint.findings_of_entry.Goals as goal

pub returns : goal.returns
returns g c =
    let remarks = c.in_ok-remarks.remarks in
    let lines = c.in_ok-bytes.bytes.items in
    let slice = c.as_slice.ensures.value in
    let len : length remarks.items ≡ vec_len remarks = omega (arith, remarks.ok) in
    let told = subst (λ rs. AreBlocks c.args.before.now rs lines) slice c.in_ok-bytes.ensures.told in (
      (remarks.items, c.in_ok-remarks.ensures.remarks, told, c.in_ok-bytes.ensures.printable),
      c.is_empty-passed.ensures ∙ ap (λ n. n == 0) (sym len) ∙ sym (c.in_ok-bytes.ensures.none ∙ ap (λ rs. length rs == 0) slice),
    )
