-- Those that were seen are the names so far, and the remarks so far go on to those on all.
use Rattle.std.proofs.Common.{◌≡◌, take}
use Rattle.ti_rules.specs.Names.{IsNameReport}
use Rattle.ti_rules.specs.inner.Lent.{texts_lent}
use Rattle.ti_rules.proofs.ReportsLemmas.{GoesOn}
use Rattle.ti_rules.proofs.RepeatedLemmas.{AreSeen}
use Rattle.ti_rules.proofs.report.Report.push_each.Given as goal

abbrev pub invariant-names : goal.invariant-names
invariant-names g l = record {
  seen : AreSeen (take l.name-index (texts_lent l.names)) l.seen.keys;
  kept : l.self.on ≡ l.initial.self.on;
  goes : GoesOn (IsNameReport l.kind (texts_lent l.names)) (texts_lent l.names) l.initial.self.remarks l.name-index l.self.remarks;
}
