-- No control stands at a place so far.
use Rattle.std.proofs.Common.{◌≡◌, ◌<◌, ℕ, false, drop}
use Rattle.ti_control.specs.Entries.{starts_control}
use Rattle.ti_control.proofs.names.first_control.Given as goal

abbrev pub invariant-names : goal.invariant-names
invariant-names l = (k : ℕ) → k < l.place → starts_control (drop k l.names) ≡ false
