use Rattle.std.proofs.Common.{◌≡◌, ◌+◌, ◌-◌, ◌*◌, ◌≤◌, length}
use Rattle.ti_layout.specs.Layout.{places}
use Rattle.ti_layout.specs.Table.{sizes_at}
use Rattle.ti_layout.proofs.table.base_of.Given as goal

abbrev pub invariant-loop-i : goal.invariant-loop-i
invariant-loop-i l = record {
  total : l.base + sizes_at l.bytes l.table (places (l.from + 2 * l.i) 2 (l.count - l.i)) ≡ sizes_at l.bytes l.table (places l.from 2 l.count);
  bound : l.base ≤ length l.table + 32769;
}
