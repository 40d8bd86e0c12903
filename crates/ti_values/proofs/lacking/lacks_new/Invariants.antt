-- Some of those that are left is not there exactly if some of all is not.
use Rattle.std.proofs.Common.{◌≡◌, drop}
use Rattle.ti_values.specs.Renditions.{lacks_new}
use Rattle.ti_values.specs.inner.Rows.{slices_of}
use Rattle.ti_values.proofs.lacking.lacks_new.Given as goal

abbrev pub invariant-parts : goal.invariant-parts
invariant-parts l = lacks_new (slices_of l.old) (slices_of l.mine) (slices_of (drop l.part-index l.theirs)) ≡ lacks_new (slices_of l.old) (slices_of l.mine) (slices_of l.theirs)
