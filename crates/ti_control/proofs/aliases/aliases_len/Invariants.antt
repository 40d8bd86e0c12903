-- No `|` stands from the place on.
use Rattle.std.proofs.Common.{◌≡◌, ◌<◌, ◌≤◌, ℕ, false, drop, length}
use Rattle.ti_control.specs.Entries.{starts_bar}
use Rattle.ti_control.proofs.aliases.aliases_len.Given as goal

abbrev pub invariant-names : goal.invariant-names
invariant-names l = record {
  within : l.end ≤ length l.names;
  none : (k : ℕ) → l.end ≤ k → k < length l.names → starts_bar (drop k l.names) ≡ false;
}

abbrev pub decreases-names : goal.decreases-names
decreases-names l = l.end
