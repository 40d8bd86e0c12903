use Rattle.std.proofs.Common.{◌∙◌, ◌++◌, List, ℕ, ap, append_assoc, refl, subst}
use Rattle.ti_control.specs.Entries.{starts_unfit}
use Rattle.ti_rules.specs.Marks.{first_place}
use Rattle.ti_rules.specs.NameBytes.{AreAliases, first_empty, on_names}
use Rattle.ti_rules.specs.declared.finding.Finding.TheVariants.{EmptyAlias, UnfitAlias}
use Rattle.ti_rules.specs.inner.Growing.{Examined}
use Rattle.ti_rules.proofs.report.Report.push_aliases.Goals as goal

pub returns : goal.returns
returns g c =
    let old = c.args.self.now in
    let new = c.push_on_names.new.self in
    let names = old.on.entry.names in
    let aliases = c.aliases_of-aliases.result.now in
    let (kept, is) = c.in_ok-push_on_names.ensures in
    let (also, too) = c.in_ok-push_on_names-2.ensures in
    let one = on_names names EmptyAlias (first_empty aliases) in
    let other = on_names names UnfitAlias (first_place starts_unfit aliases) in
    let first = is ∙ ap (λ found. old.remarks ++ on_names names EmptyAlias found) c.first_empty.ensures in
    let second = too ∙ ap (λ found. new.remarks ++ on_names new.on.entry.names UnfitAlias found) c.unfit_place.ensures in
    let third = second ∙ ap (λ (on : Examined). new.remarks ++ on_names on.entry.names UnfitAlias (first_place starts_unfit aliases)) kept in
    let P : List ℕ → Type 0 = λ all. AreAliases all aliases in (
      also ∙ kept,
      (one ++ other, (aliases, subst P c.names-names.ensures c.aliases_of-aliases.ensures, refl), third ∙ ap (λ l. l ++ other) first ∙ append_assoc old.remarks one other),
    )
