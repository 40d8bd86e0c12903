-- The remarks so far and those on the keys from the one before the next on are those on all.
use Rattle.std.proofs.Common.{◌≡◌, ◌++◌, ◌-◌, ◌≤◌, drop}
use Rattle.ti_rules.specs.inner.Lent.{keys_lent}
use Rattle.ti_rules.specs.inner.Neighbours.{on_row}
use Rattle.ti_rules.proofs.report.Report.push_row.Given as goal

abbrev pub invariant-keys : goal.invariant-keys
invariant-keys g l = record {
  low : 1 ≤ l.next;
  kept : l.self.on ≡ l.initial.self.on;
  so_far : l.self.remarks ++ on_row (drop (l.next - 1) (keys_lent l.row)) ≡ l.initial.self.remarks ++ on_row (keys_lent l.row);
}
