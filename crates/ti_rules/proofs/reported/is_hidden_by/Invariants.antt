-- It is hidden by those that are left exactly if it is by all.
use Rattle.std.proofs.Common.{◌≡◌, drop}
use Rattle.ti_rules.specs.Reported.{is_hidden_by}
use Rattle.ti_rules.specs.inner.Held.{heads_held}
use Rattle.ti_rules.proofs.reported.is_hidden_by.Given as goal

abbrev pub invariant-heads : goal.invariant-heads
invariant-heads g l = is_hidden_by (heads_held (drop l.head-index l.heads)) l.remark ≡ is_hidden_by (heads_held l.heads) l.remark
