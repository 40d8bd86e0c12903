-- The lines so far go on to the blocks of all remarks.
use Rattle.std.proofs.Common.{◌≡◌, drop, false}
use Rattle.ti_forms.specs.Blocks.{IsBlock}
use Rattle.ti_rules.proofs.ReportsLemmas.{GoesOnWith}
use Rattle.ti_forms.proofs.lines.write_blocks.Given as goal

abbrev pub invariant-remarks : goal.invariant-remarks
invariant-remarks g l = record {
  kept : l.page.is_refused ≡ false → l.initial.page.is_refused ≡ false;
  goes : l.page.is_refused ≡ false → GoesOnWith (IsBlock l.prefix) l.remarks (drop l.remark-index l.remarks) l.initial.page.bytes l.page.bytes;
}
