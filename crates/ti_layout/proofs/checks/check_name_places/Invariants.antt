use Rattle.std.proofs.Common.{◌≡◌, length}
use Rattle.ti_layout.specs.Layout.{places}
use Rattle.ti_layout.specs.Checks.{verdict, name_place_checks, all_name_place_checks}
use Rattle.ti_layout.proofs.VerdictLemmas.{rest_of_each}
use Rattle.ti_layout.proofs.checks.check_name_places.Given as goal

abbrev pub invariant-loop-i : goal.invariant-loop-i
invariant-loop-i l = rest_of_each (name_place_checks l.bytes l.table.bytes.now l.base l.table.end) (length l.bytes) l.from 2 l.count l.i ≡ verdict (length l.bytes) (all_name_place_checks l.bytes l.table.bytes.now l.base l.table.end (places l.from 2 l.count))
