-- None of the rows so far has the function.
use Rattle.std.proofs.Common.{◌≡◌, drop}
use Rattle.ti_allow.specs.Effects.{effect_of}
use Rattle.ti_allow.proofs.effect.effect_by.Given as goal

abbrev pub invariant-rows : goal.invariant-rows
invariant-rows l = effect_of (drop l.row-index l.rows) l.name l.function ≡ effect_of l.rows l.name l.function
