-- What is there, and what the rest will add after the front of a part, make the whole.
use Rattle.std.proofs.Common.{◌≡◌, ◌≤◌, ◌-◌, ◌++◌, [], drop, take}
use Rattle.ti_rules.specs.NameBytes.{parted}
use Rattle.ti_rules.specs.inner.Lent.{texts_lent}
use Rattle.ti_rules.proofs.name_bytes.parts_of.Given as goal

abbrev pub invariant-bytes : goal.invariant-bytes
invariant-bytes g l = record {
  low : l.start ≤ l.place;
  parts : texts_lent l.parts.items ++ parted (take (l.place - l.start) (drop l.start l.bytes)) (drop l.place l.bytes) ≡ parted [] l.bytes;
}
