-- The remarks so far go on to those on all texts.
use Rattle.std.proofs.Common.{◌≡◌, map}
use Rattle.ti_values.specs.inner.Rows.{row_of}
use Rattle.ti_rules.specs.Values.{IsNamedTriedReport}
use Rattle.ti_rules.proofs.ReportsLemmas.{GoesOn}
use Rattle.ti_rules.proofs.report.Report.push_rows.Given as goal

abbrev pub invariant-rows : goal.invariant-rows
invariant-rows g l = record {
  kept : l.self.on ≡ l.initial.self.on;
  goes : GoesOn (IsNamedTriedReport l.fn.self.on.entry) (map row_of l.rows) l.initial.self.remarks l.name-index l.self.remarks;
}
