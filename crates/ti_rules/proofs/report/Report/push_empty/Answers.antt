use Rattle.std.proofs.Common.{◌∙◌, ◌++◌, Some, ap, refl}
use Rattle.ti_rules.specs.Remarks.{For, on_values}
use Rattle.ti_rules.specs.declared.finding.Finding.TheVariants.{EmptyOutput}
use Rattle.ti_rules.specs.Values.{tried_at}
use Rattle.ti_rules.specs.inner.Held.{trial_held}
use Rattle.ti_rules.proofs.report.Report.push_empty.Goals as goal

pub returns-in_ok-push_on_values-in-Some : goal.returns-in_ok-push_on_values-in-Some
returns-in_ok-push_on_values-in-Some g c =
    let t = trial_held c.args.trial.now in
    let k = c.in-Some.place in
    let (kept, is) = c.in_ok-push_on_values-in-Some.ensures in (
      kept,
      (
        on_values t.name t.text EmptyOutput (For (tried_at t k)),
        (Some k, c.in-Some.ensures.exact, refl),
        is ∙ ap (λ value. c.args.self.now.remarks ++ on_values t.name t.text EmptyOutput (For value)) c.tried_at.ensures,
      ),
    )
