-- None of the rows so far has the name.
use Rattle.std.proofs.Common.{◌≡◌, drop, map}
use Rattle.ti_lint.specs.ExtendedClasses.{class_named, extended_classes}
use Rattle.ti_lint.specs.inner.Rows.{row_of}
use Rattle.ti_lint.proofs.extended_class.extended_class_of.Given as goal

abbrev pub invariant-rows : goal.invariant-rows
invariant-rows l = class_named (map row_of (drop l.known-index l.known-items)) l.name ≡ class_named extended_classes l.name
