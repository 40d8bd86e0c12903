-- The heads are those of the remarks so far.
use Rattle.std.proofs.Common.{◌≡◌, map, take}
use Rattle.ti_rules.specs.Reported.{head}
use Rattle.ti_rules.specs.inner.Held.{heads_held}
use Rattle.ti_rules.proofs.reported.heads_of.Given as goal

abbrev pub invariant-remarks : goal.invariant-remarks
invariant-remarks g l = heads_held l.heads.items ≡ map head (take l.remark-index l.remarks)
