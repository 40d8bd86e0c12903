-- No set so far lacks anything.
use Rattle.std.proofs.Common.{ℕ, ◌<◌}
use Rattle.ti_values.specs.Attributes.{LacksAttribute}
use Rattle.ti_values.specs.Sent.{texts_of}
use Rattle.ti_values.proofs.attribute.first_combination.Given as goal

abbrev pub invariant-sets : goal.invariant-sets
invariant-sets g l = (k : ℕ) → k < l.set → ((n : ℕ) × (n < 9) × LacksAttribute (texts_of l.sent) k n) → ⊥
