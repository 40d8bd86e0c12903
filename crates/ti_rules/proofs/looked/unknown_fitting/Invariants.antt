-- Those so far fit, and with those that fit among the others they are all that do.
use Rattle.std.proofs.Common.{◌≡◌, ◌+◌, drop, map}
use Rattle.ti_rules.specs.Controls.{bytes_of_unknown, fitting, looked_count}
use Rattle.ti_rules.specs.inner.Held.{unknowns_held}
use Rattle.ti_rules.proofs.looked.unknown_fitting.Given as goal

abbrev pub invariant-texts : goal.invariant-texts
invariant-texts l = record {
  at : l.count ≡ l.text-index;
  all : l.count + fitting l.room (map bytes_of_unknown (drop l.text-index (unknowns_held l.texts))) ≡ looked_count bytes_of_unknown (unknowns_held l.texts);
}
