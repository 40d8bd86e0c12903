-- The remarks so far go on to those on all texts.
use Rattle.std.proofs.Common.{◌≡◌, drop}
use Rattle.ti_rules.specs.Crashes.{AreUnknownDivisions}
use Rattle.ti_rules.specs.inner.Held.{unknowns_held}
use Rattle.ti_rules.proofs.ReportsLemmas.{GoesOnWith}
use Rattle.ti_rules.proofs.report.Report.push_unknown_divisions.Given as goal

abbrev pub invariant-texts : goal.invariant-texts
invariant-texts g l = record {
  kept : l.self.on ≡ l.initial.self.on;
  goes : GoesOnWith AreUnknownDivisions (unknowns_held l.texts) (drop l.text-index (unknowns_held l.texts)) l.initial.self.remarks l.self.remarks;
}
