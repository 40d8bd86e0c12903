-- The remarks so far go on to those on all findings.
use Rattle.ti_rules.specs.Texts.{IsFindingReport, all_findings}
use Rattle.ti_rules.proofs.ReportsLemmas.{GoesOn}
use Rattle.ti_rules.proofs.text_remarks.TextRemarks.push_founds.Given as goal

abbrev pub invariant-findings : goal.invariant-findings
invariant-findings g l =
    GoesOn (IsFindingReport l.fn.capability l.fn.parameters l.founds) all_findings l.initial.self l.finding-index l.self
