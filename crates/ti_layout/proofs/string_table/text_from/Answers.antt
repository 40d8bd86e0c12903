use Rattle.std.proofs.Common.{◌<◌, ◌-◌, drop, length, take, ap, subst, ◌∙◌}
use Rattle.std.proofs.lemmas.List.{take_rest}
use Rattle.ti_layout.specs.Table.{until_nul}
use Rattle.ti_layout.proofs.UntilNulLemmas.{until_near}
use Rattle.ti_layout.proofs.string_table.text_from.Goals as goal

pub returns-in-Some : goal.returns-in-Some
returns-in-Some c =
    let table = c.args.table.now in
    let rest = take (length table - c.args.place) (drop c.args.place table) in
    let end = c.in-Some.ensures in
    ap (λ k. take k rest) end.first ∙ until_near rest 16 (subst (λ k. k < 16) end.first end.near) ∙ ap until_nul (take_rest table c.args.place)
