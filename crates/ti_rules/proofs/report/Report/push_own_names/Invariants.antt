-- The remarks so far go on to those on all names.
use Rattle.std.proofs.Common.{◌≡◌, drop}
use Rattle.ti_rules.specs.NameBytes.{IsOwnNameReport}
use Rattle.ti_rules.specs.inner.Lent.{texts_lent}
use Rattle.ti_rules.proofs.ReportsLemmas.{GoesOnWith}
use Rattle.ti_rules.proofs.report.Report.push_own_names.Given as goal

abbrev pub invariant-names : goal.invariant-names
invariant-names g l = record {
  kept : l.self.on ≡ l.initial.self.on;
  goes : GoesOnWith IsOwnNameReport (texts_lent l.names) (drop l.name-index (texts_lent l.names)) l.initial.self.remarks l.self.remarks;
}
