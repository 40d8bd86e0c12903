use Rattle.std.proofs.Common.{◌∙◌, ◌++◌, Option, Some, ap, ap₂, refl, subst, [], None, sym}
use Rattle.std.proofs.lemmas.List.{append-nil}
use Rattle.ti_values.specs.Findings.{IsFirstSame, sent_at}
use Rattle.ti_values.specs.declared.same.Same.{Same as SameAt}
use Rattle.ti_rules.specs.Remarks.{SentForTwo, on_values}
use Rattle.ti_rules.specs.declared.finding.Finding.TheVariants.{SameOutput}
use Rattle.ti_rules.specs.Values.{same_evidence}
use Rattle.ti_rules.specs.inner.Held.{trial_held}
use Rattle.ti_rules.proofs.report.Report.push_same.Goals as goal

pub returns-in_ok-push_on_values-in-Some : goal.returns-in_ok-push_on_values-in-Some
returns-in_ok-push_on_values-in-Some g c =
    let t = trial_held c.args.trial.now in
    let found = c.in-Some.found in
    let P : Option SameAt → Type 0 = λ some. IsFirstSame t.sent some in
    let (kept, is) = c.in_ok-push_on_values-in-Some.ensures in (
      kept,
      (
        on_values t.name t.text SameOutput (same_evidence t found),
        (Some found, subst P c.in-Some.is c.in_ok-first_same.ensures.exact, refl),
        is
            ∙ ap (λ text. c.args.self.now.remarks ++ on_values t.name t.text SameOutput (SentForTwo c.tried_at.result c.tried_at-in-Some.result text)) c.in_ok-text-in-Some.ensures
            ∙ ap₂ (λ one other. c.args.self.now.remarks ++ on_values t.name t.text SameOutput (SentForTwo one other (sent_at t.sent found.other))) c.tried_at.ensures c.tried_at-in-Some.ensures,
      ),
    )

pub returns-in-None : goal.returns-in-None
returns-in-None g c =
    let P : Option SameAt → Type 0 = λ found. IsFirstSame (trial_held c.args.trial.now).sent found in
    (refl, ([], (None, subst P c.in-None.is c.in_ok-first_same.ensures.exact, refl), sym (append-nil c.args.self.now.remarks)))
