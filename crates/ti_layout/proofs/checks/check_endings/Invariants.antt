use Rattle.std.proofs.Common.{◌≡◌, length, map}
use Rattle.ti_layout.specs.Layout.{places}
use Rattle.ti_layout.specs.Checks.{verdict, ending_check}
use Rattle.ti_layout.proofs.VerdictLemmas.{rest_of}
use Rattle.ti_layout.proofs.checks.check_endings.Given as goal

abbrev pub invariant-loop-i : goal.invariant-loop-i
invariant-loop-i l = rest_of (ending_check l.bytes l.table.bytes.now l.table.end) (length l.bytes) l.from 2 l.count l.i ≡ verdict (length l.bytes) (map (ending_check l.bytes l.table.bytes.now l.table.end) (places l.from 2 l.count))
