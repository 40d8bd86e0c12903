-- It is 0 for some values exactly if it is for some that are left.
use Rattle.std.proofs.Common.{◌≡◌, drop}
use Rattle.std.specs.List.{list_any}
use Rattle.ti_rules.specs.Crashes.{is_zero_for}
use Rattle.ti_rules.proofs.crashes.may_be_zero.Given as goal

abbrev pub invariant-tries : goal.invariant-tries
invariant-tries g l = list_any (is_zero_for l.which) (drop l.tried-index l.tried-items) ≡ list_any (is_zero_for l.which) l.tried-items
