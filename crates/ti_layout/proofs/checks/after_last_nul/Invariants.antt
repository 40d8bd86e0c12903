-- No NUL stands after the place that was reached.
use Rattle.std.proofs.Common.{◌≡◌, ◌≤◌, false, length}
use Rattle.ti_layout.specs.Table.{ends_in}
use Rattle.ti_layout.proofs.checks.after_last_nul.Given as goal

abbrev pub invariant-back : goal.invariant-back
invariant-back l = record {
  within : l.after ≤ length l.table;
  none : ends_in l.table l.after ≡ false;
}

abbrev pub decreases-back : goal.decreases-back
decreases-back l = l.after
