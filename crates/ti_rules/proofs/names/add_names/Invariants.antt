-- The names so far have come after those that were there.
use Rattle.std.proofs.Common.{◌≡◌, ◌++◌, take}
use Rattle.ti_entry.specs.Finding.{names_of}
use Rattle.ti_rules.specs.inner.Lent.{texts_lent}
use Rattle.ti_rules.proofs.names.add_names.Given as goal

abbrev pub invariant-names : goal.invariant-names
invariant-names g l = texts_lent l.names.items ≡ texts_lent l.initial.names.items ++ take l.index (names_of l.extended l.fn.kind)
