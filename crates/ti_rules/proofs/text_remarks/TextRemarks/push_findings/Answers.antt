use Rattle.std.proofs.Common.{List, subst}
use Rattle.ti_lint.specs.declared.placed_finding.PlacedFinding.{PlacedFinding}
use Rattle.ti_rules.specs.Lines.{Adds, AreReports}
use Rattle.ti_rules.specs.Texts.{IsFindingReport, IsUnusedReport, all_findings}
use Rattle.ti_rules.proofs.TurnsLemmas.{in_turn}
use Rattle.ti_rules.proofs.text_remarks.TextRemarks.push_findings.Goals as goal

pub returns : goal.returns
returns g c =
    let text = c.args.capability.now in
    let founds = c.in_ok-list.list.items in
    let n = c.args.parameters in
    let Q : List PlacedFinding → Type 0 = λ list. Adds (AreReports (IsFindingReport text n list) 0 all_findings) c.args.self.now c.push_founds.new.self in
    let R : List PlacedFinding → Type 0 = λ list. Adds (IsUnusedReport c.args.usage text n list) c.push_founds.new.self c.push_unused.new.self in
    let (remarks, are, is) = in_turn _ _ _ _ _ (subst Q c.as_slice-founds.ensures.value c.in_ok-push_founds.ensures) (subst R c.as_slice-founds.ensures.value c.in_ok-push_unused.ensures) in
    (remarks, (founds, record { exact = c.in_ok-list.ensures.exact; order = c.in_ok-list.ensures.order }, are), is)
