-- Some of those that are left is not there exactly if some of all is not.
use Rattle.std.proofs.Common.{◌≡◌, drop}
use Rattle.ti_values.specs.Renditions.{lacks}
use Rattle.ti_values.specs.inner.Rows.{slices_of}
use Rattle.ti_values.proofs.lacking.lacks.Given as goal

abbrev pub invariant-parts : goal.invariant-parts
invariant-parts l = lacks (slices_of l.mine) (slices_of (drop l.part-index l.theirs)) ≡ lacks (slices_of l.mine) (slices_of l.theirs)
