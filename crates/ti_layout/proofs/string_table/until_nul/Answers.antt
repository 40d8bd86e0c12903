use Rattle.std.proofs.Common.{◌<◌, take, ap, subst, ◌∙◌}
use Rattle.ti_layout.proofs.UntilNulLemmas.{until_near}
use Rattle.ti_layout.proofs.string_table.until_nul.Goals as goal

pub returns-in-Some : goal.returns-in-Some
returns-in-Some c =
    let bytes = c.args.bytes.now in
    let end = c.in-Some.ensures in
    ap (λ k. take k bytes) end.first ∙ until_near bytes 32 (subst (λ k. k < 32) end.first end.near)
