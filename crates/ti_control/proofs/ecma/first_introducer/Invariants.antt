-- No `\E[` stands at a place so far.
use Rattle.std.proofs.Common.{◌≡◌, ◌<◌, ℕ, false, drop}
use Rattle.ti_control.specs.Entries.{starts_introducer}
use Rattle.ti_control.proofs.ecma.first_introducer.Given as goal

abbrev pub invariant-text : goal.invariant-text
invariant-text l = (k : ℕ) → k < l.place → starts_introducer (drop k l.text) ≡ false
