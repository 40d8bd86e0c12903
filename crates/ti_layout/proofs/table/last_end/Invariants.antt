-- The last end so far and those that are left have the last end of all.
use Rattle.std.proofs.Common.{◌≡◌, ◌+◌, ◌*◌, ◌-◌, max}
use Rattle.ti_layout.specs.Layout.{places}
use Rattle.ti_layout.specs.Table.{last_end}
use Rattle.ti_layout.proofs.table.last_end.Given as goal

abbrev pub invariant-texts : goal.invariant-texts
invariant-texts l =
    max l.last (last_end l.bytes l.table (places (l.from + 2 * l.i) 2 (l.count - l.i))) ≡ last_end l.bytes l.table (places l.from 2 l.count)
