-- The remarks so far go on to those on all texts.
use Rattle.std.proofs.Common.{◌≡◌, drop}
use Rattle.ti_rules.specs.Sequences.{IsSequenceOf}
use Rattle.ti_rules.specs.inner.Held.{texts_held}
use Rattle.ti_rules.proofs.ReportsLemmas.{GoesOnWith}
use Rattle.ti_rules.proofs.report.Report.push_sequences.Given as goal

abbrev pub invariant-texts : goal.invariant-texts
invariant-texts g l = record {
  kept : l.self.on ≡ l.initial.self.on;
  goes : GoesOnWith (IsSequenceOf l.ansi) (texts_held l.text-items) (drop l.text-index (texts_held l.text-items)) l.initial.self.remarks l.self.remarks;
}
