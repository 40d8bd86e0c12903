-- The remarks so far go on to those on all texts.
use Rattle.std.proofs.Common.{◌≡◌, drop, map}
use Rattle.ti_values.specs.inner.Rows.{row_of}
use Rattle.ti_rules.specs.Crashes.{AreDivisionsOf}
use Rattle.ti_rules.specs.inner.Held.{texts_held}
use Rattle.ti_rules.proofs.ReportsLemmas.{GoesOnWith}
use Rattle.ti_rules.proofs.report.Report.push_known_divisions.Given as goal

abbrev pub invariant-texts : goal.invariant-texts
invariant-texts g l = record {
  kept : l.self.on ≡ l.initial.self.on;
  goes : GoesOnWith (AreDivisionsOf (map row_of l.rows)) (texts_held l.texts) (drop l.text-index (texts_held l.texts)) l.initial.self.remarks l.self.remarks;
}
