-- What is there, and what the rest will add after the front of a parameter, make the whole.
use Rattle.std.proofs.Common.{◌≡◌, ◌≤◌, ◌-◌, ◌++◌, [], drop, take}
use Rattle.ti_values.specs.Renditions.{split_after}
use Rattle.ti_values.specs.inner.Rows.{slices_of}
use Rattle.ti_values.proofs.rendition.push_split.Given as goal

abbrev pub invariant-bytes : goal.invariant-bytes
invariant-bytes g l = record {
  low : l.start ≤ l.place;
  parts : slices_of l.list.items ++ split_after (take (l.place - l.start) (drop l.start l.bytes)) (drop l.place l.bytes)
      ≡ slices_of l.initial.list.items ++ split_after [] l.bytes;
}
