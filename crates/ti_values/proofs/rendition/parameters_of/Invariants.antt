-- What is there and what the rest will add make the whole.
use Rattle.std.proofs.Common.{◌≡◌, ◌++◌, drop}
use Rattle.ti_values.specs.Renditions.{parameters}
use Rattle.ti_values.specs.inner.Rows.{slices_of}
use Rattle.ti_values.proofs.rendition.parameters_of.Given as goal

abbrev pub invariant-bytes : goal.invariant-bytes
invariant-bytes g l = slices_of l.list.items ++ parameters (drop l.place l.bytes) ≡ parameters l.bytes
