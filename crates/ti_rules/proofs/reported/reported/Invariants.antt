-- Those that are kept and those that will be are those of all.
use Rattle.std.proofs.Common.{◌≡◌, ◌++◌, length, reverse}
use Rattle.std.specs.List.{filter}
use Rattle.ti_rules.specs.Reported.{is_reported, reported}
use Rattle.ti_rules.specs.inner.Held.{heads_held}
use Rattle.ti_rules.proofs.reported.reported.Given as goal

abbrev pub invariant-found : goal.invariant-found
invariant-found g l =
    l.kept.items ++ filter (is_reported l.level (heads_held l.heads.items)) (reverse l.rest.items) ≡ reported l.level l.fn.found.items

abbrev pub decreases-found : goal.decreases-found
decreases-found g l = length l.rest.items
