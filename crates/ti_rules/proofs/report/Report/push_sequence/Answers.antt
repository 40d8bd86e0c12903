use Rattle.std.proofs.Common.{◌++◌, ◌∙◌, [], ap, inl, inr, refl, sym}
use Rattle.std.proofs.lemmas.List.{append-nil}
use Rattle.ti_rules.specs.Remarks.{NoEvidence, on_values}
use Rattle.ti_rules.specs.Splits.{text_finding}
use Rattle.ti_rules.proofs.report.Report.push_sequence.Goals as goal

pub returns-then-has_unended : goal.returns-then-has_unended
returns-then-has_unended g c =
    let (kept, is) = c.in_ok-push_on_values.ensures in
    let s = c.args.subject.now in
    (kept, (on_values s.name.now s.text.now (text_finding s.text.now) NoEvidence, inl (c.has_unended.ensures.exact.0 c.if-has_unended.true, refl), is ∙ ap (λ f. c.args.self.now.remarks ++ on_values s.name.now s.text.now f NoEvidence) c.text_finding.ensures))

pub returns : goal.returns
returns g c =
    (refl, ([], inr (λ has. cc (c.has_unended.ensures.exact.1 has, c.if-has_unended.false), refl), sym (append-nil c.args.self.now.remarks)))
