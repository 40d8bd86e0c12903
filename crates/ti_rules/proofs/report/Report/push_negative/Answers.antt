use Rattle.std.proofs.Common.{List, ℕ, refl, subst}
use Rattle.ti_values.specs.Findings.{IsFirstOf}
use Rattle.ti_values.specs.Negative.{IsNegativeAt}
use Rattle.ti_rules.proofs.report.Report.push_negative.Goals as goal

pub returns : goal.returns
returns g c =
    let P : List ℕ → Type 0 = λ text. IsFirstOf (IsNegativeAt text c.args.trial.now.tried.now) c.in_ok-found.found in
    let (kept, is) = c.in_ok-push_sent.ensures in
    (kept, (_, (c.in_ok-found.found, subst P c.requires c.in_ok-found.ensures.exact, refl), is))
