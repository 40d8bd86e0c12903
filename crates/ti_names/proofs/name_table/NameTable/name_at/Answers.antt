use Rattle.std.proofs.Common.{◌≡◌, ◌∙◌, None, ap, cond, rules, sym, true}
use Rattle.std.specs.Prelude.{slice_get}
use Rattle.ti_names.specs.AllNames.{has_index, listed}
use Rattle.ti_names.proofs.HeldNamesLemmas.{lent_is, name_held}
use Rattle.ti_names.proofs.NamesLemmas.{named_at}
use Rattle.ti_names.proofs.name_table.NameTable.name_at.Goals as goal

pub returns : goal.returns
returns c =
    let has : has_index c.args.self c.args.kind c.args.index ≡ true = search rules in
    let (name, held, is) = name_held c.list_of.result.now (listed c.args.self c.args.kind) c.args.index c.in_ok-listed.listed c.list_of.ensures
    (sym (lent_is c.list_of.result.now c.args.index c.get.result c.get.ensures.lookup.3) ∙ sym c.copied.ensures ∙ c.in_ok-listed.was) in
    named_at c.args.self c.args.kind c.args.index _
    (c.without_nul.ensures name held ∙ sym (ap (λ b. cond b (slice_get (listed c.args.self c.args.kind) c.args.index) None) has ∙ is))
