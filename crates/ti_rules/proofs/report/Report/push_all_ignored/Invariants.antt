-- The remarks are those on the attributes so far.
use Rattle.std.proofs.Common.{◌≡◌, ◌++◌, map, take}
use Rattle.std.specs.List.{flat_map}
use Rattle.ti_values.specs.inner.Rows.{row_of}
use Rattle.ti_rules.specs.Values.{on_ignored}
use Rattle.ti_rules.specs.inner.Held.{trial_held}
use Rattle.ti_rules.proofs.report.Report.push_all_ignored.Given as goal

abbrev pub invariant-attributes : goal.invariant-attributes
invariant-attributes g l = record {
  kept : l.self.on ≡ l.initial.self.on;
  so_far : l.self.remarks ≡ l.initial.self.remarks ++ flat_map (on_ignored l.fn.self.on.entry (trial_held l.trial)) (map row_of (take l.name-index l.name-items));
}
