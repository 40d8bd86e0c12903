-- Those so far fit, and with those that fit among the others they are all that do.
use Rattle.std.proofs.Common.{◌≡◌, ◌+◌, drop, map}
use Rattle.ti_rules.specs.Controls.{bytes_of_known, fitting, looked_count}
use Rattle.ti_rules.specs.inner.Held.{texts_held}
use Rattle.ti_rules.proofs.looked.known_fitting.Given as goal

abbrev pub invariant-texts : goal.invariant-texts
invariant-texts l = record {
  at : l.count ≡ l.text-index;
  all : l.count + fitting l.room (map bytes_of_known (drop l.text-index (texts_held l.texts))) ≡ looked_count bytes_of_known (texts_held l.texts);
}
