-- The writer took `gone` pad bytes so far.
use Rattle.std.proofs.Common.{◌≡◌, ◌-◌, ◌≤◌, replicate}
use Rattle.std.specs.Io.KnownBytes.{Appends}
use Rattle.ti_pad.proofs.writing.write_pads.Given as goal

abbrev pub invariant-writes : goal.invariant-writes
invariant-writes g l = record {
  within : l.gone ≤ l.count;
  taken : Appends (g.W.Write.contents l.initial.writer) (g.W.Write.contents l.writer) (replicate l.gone l.pad);
  nothing : l.count ≡ 0 → l.writer ≡ l.initial.writer;
}

abbrev pub decreases-writes : goal.decreases-writes
decreases-writes g l = l.count - l.gone
