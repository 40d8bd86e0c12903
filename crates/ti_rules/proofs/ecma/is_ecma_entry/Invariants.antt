-- The texts that are left have one exactly if all have.
use Rattle.std.proofs.Common.{◌≡◌, drop}
use Rattle.std.specs.List.{list_any}
use Rattle.ti_control.specs.Parts.{texts_of}
use Rattle.ti_rules.specs.Controls.{is_ecma_in}
use Rattle.ti_rules.proofs.ecma.is_ecma_entry.Given as goal

abbrev pub invariant-names : goal.invariant-names
invariant-names l =
    list_any (is_ecma_in l.entry) (texts_of (drop l.name-index l.name-items)) ≡ list_any (is_ecma_in l.entry) (texts_of l.name-items)
