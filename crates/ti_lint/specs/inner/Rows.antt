-- The rows of a table, as the code holds them.
use Rattle.std.specs.Borrow.{Bor}
use Rattle.std.specs.Prelude.{ℕ, List}
use Rattle.ti_names.specs.declared.class.Class.{Class}
use Rattle.ti_lint.specs.ExtendedClasses.{Row}

abbrev pub row_of : Bor (List ℕ) × Class → Row
row_of (name, class) = (name.now, class)
