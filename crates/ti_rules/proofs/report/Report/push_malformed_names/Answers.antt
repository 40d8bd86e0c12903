use Rattle.std.proofs.Common.{List, ℕ, subst}
use Rattle.ti_rules.specs.NameBytes.{IsUtf8Report, on_names}
use Rattle.ti_rules.specs.declared.finding.Finding.TheVariants.{NamesMalformed}
use Rattle.ti_rules.proofs.NameBytesLemmas.{utf8_report}
use Rattle.ti_rules.proofs.report.Report.push_malformed_names.Goals as goal

pub returns : goal.returns
returns g c =
    let (kept, is) = c.in_ok-push_on_names.ensures in
    let found = c.first_malformed-found.result in
    let P : List ℕ → Type 0 = λ names. IsUtf8Report names (on_names names NamesMalformed found) in
    (kept, (on_names c.args.self.now.on.entry.names NamesMalformed found, subst P c.names-names.ensures (utf8_report c.names-names.result.now found c.first_malformed-found.ensures.first), is))
