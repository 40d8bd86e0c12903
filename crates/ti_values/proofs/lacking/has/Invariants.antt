-- It is among those that are left exactly if it is among all.
use Rattle.std.proofs.Common.{◌≡◌, drop}
use Rattle.ti_values.specs.Renditions.{has}
use Rattle.ti_values.specs.inner.Rows.{slices_of}
use Rattle.ti_values.proofs.lacking.has.Given as goal

abbrev pub invariant-parts : goal.invariant-parts
invariant-parts l = has (slices_of (drop l.other-index l.parts)) l.part ≡ has (slices_of l.parts) l.part
