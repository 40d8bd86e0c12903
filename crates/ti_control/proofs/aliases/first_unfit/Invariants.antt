-- None stands at a place so far.
use Rattle.std.proofs.Common.{◌≡◌, ◌<◌, ℕ, false, drop}
use Rattle.ti_control.specs.Entries.{starts_unfit}
use Rattle.ti_control.proofs.aliases.first_unfit.Given as goal

abbrev pub invariant-aliases : goal.invariant-aliases
invariant-aliases l = (k : ℕ) → k < l.place → starts_unfit (drop k l.aliases) ≡ false
