-- No `..` stands at a place so far.
use Rattle.std.proofs.Common.{◌≡◌, ◌<◌, ℕ, false, drop}
use Rattle.ti_control.specs.Entries.{starts_parent}
use Rattle.ti_control.proofs.files.first_parent.Given as goal

abbrev pub invariant-path : goal.invariant-path
invariant-path l = (k : ℕ) → k < l.place → starts_parent (drop k l.path) ≡ false
