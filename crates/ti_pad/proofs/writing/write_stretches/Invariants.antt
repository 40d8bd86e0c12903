-- The writer took the first `gone` bytes of the padded text so far, and the padded rest is what stands after them.
use Rattle.std.proofs.Common.{◌≡◌, [], ◌≤◌, length, take, drop}
use Rattle.std.specs.Io.KnownBytes.{Appends}
use Rattle.ti_pad.specs.Padded.{padded_text}
use Rattle.ti_pad.proofs.writing.write_stretches.Given as goal

abbrev pub invariant-stretches : goal.invariant-stretches
invariant-stretches g l = record {
  within : l.gone ≤ length (padded_text l.fn.bytes l.padding);
  left : drop l.gone (padded_text l.fn.bytes l.padding) ≡ padded_text l.rest l.padding;
  taken : Appends (g.W.Write.contents l.initial.writer) (g.W.Write.contents l.writer) (take l.gone (padded_text l.fn.bytes l.padding));
  nothing : padded_text l.fn.bytes l.padding ≡ [] → l.writer ≡ l.initial.writer;
}

abbrev pub decreases-stretches : goal.decreases-stretches
decreases-stretches g l = length l.rest
