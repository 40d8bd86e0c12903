use Rattle.std.proofs.Common.{◌≡◌, subst}
use Rattle.std.specs.Prelude.{IfOk}
use Rattle.ti_rules.specs.Reported.{reported}
use Rattle.ti_rules.specs.inner.Growing.{Report}
use Rattle.ti_rules.proofs.report.Report.into_reported.Goals as goal

pub returns : goal.returns
returns g c =
    let P : Report → Type 0 = λ r. IfOk c.reported.result (λ remarks. remarks.items ≡ reported r.on.options.level r.remarks) in
    subst P c.self.view_is c.reported.ensures
