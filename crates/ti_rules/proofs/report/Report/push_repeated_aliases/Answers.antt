use Rattle.std.proofs.Common.{◌∙◌, List, ℕ, ap, subst}
use Rattle.ti_rules.specs.Lines.{AreReports}
use Rattle.ti_rules.specs.Names.{IsNameReport}
use Rattle.ti_rules.specs.NameBytes.{AreAliases}
use Rattle.ti_rules.specs.declared.names.NameKind.TheVariants.{Alias}
use Rattle.ti_rules.specs.inner.Lent.{texts_lent}
use Rattle.ti_rules.proofs.report.Report.push_repeated_aliases.Goals as goal

pub returns : goal.returns
returns g c =
    let aliases = c.aliases_of-aliases.result.now in
    let (kept, (remarks, are, is)) = c.in_ok-push_each.ensures in
    let P : List (List ℕ) → Type 0 = λ parts. AreReports (IsNameReport Alias parts) 0 parts remarks in
    let Q : List ℕ → Type 0 = λ names. AreAliases names aliases in
    let parts = ap texts_lent c.as_slice.ensures.value ∙ c.in_ok-parts.ensures in
    (kept, (remarks, (aliases, subst Q c.names-names.ensures c.aliases_of-aliases.ensures, subst P parts are), is))
