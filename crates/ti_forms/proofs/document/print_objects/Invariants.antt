-- The text so far goes on to the objects of all remarks.
use Rattle.std.proofs.Common.{◌≡◌, drop, false}
use Rattle.ti_forms.specs.Blocks.{IsObject}
use Rattle.ti_rules.proofs.ReportsLemmas.{GoesOnWith}
use Rattle.ti_forms.proofs.document.print_objects.Given as goal

abbrev pub invariant-remarks : goal.invariant-remarks
invariant-remarks g l = record {
  fits : l.printer.is_misused ≡ false → l.initial.printer.is_misused ≡ false;
  kept : l.printer.is_refused ≡ false → l.initial.printer.is_refused ≡ false;
  goes : l.printer.is_refused ≡ false → l.printer.is_misused ≡ false
      → GoesOnWith IsObject l.remarks (drop l.remark-index l.remarks) l.initial.printer.bytes l.printer.bytes;
}
