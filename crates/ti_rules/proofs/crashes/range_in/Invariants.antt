-- The rows that are left have it exactly if all have.
use Rattle.std.proofs.Common.{◌≡◌, drop, map}
use Rattle.ti_values.specs.inner.Rows.{row_of}
use Rattle.ti_rules.specs.Crashes.{range_in}
use Rattle.ti_rules.proofs.crashes.range_in.Given as goal

abbrev pub invariant-rows : goal.invariant-rows
invariant-rows l = range_in (map row_of (drop l.known-index l.rows)) l.name ≡ range_in (map row_of l.rows) l.name
