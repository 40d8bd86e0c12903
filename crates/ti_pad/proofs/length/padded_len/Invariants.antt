-- What is counted and the padded rest are the padded text; no byte of the text stands for too many.
use Rattle.std.proofs.Common.{◌≡◌, ◌+◌, ◌*◌, ◌≤◌, length}
use Rattle.ti_pad.specs.Padded.{padded_text}
use Rattle.ti_pad.proofs.length.padded_len.Given as goal

abbrev pub invariant-stretches : goal.invariant-stretches
invariant-stretches l = record {
  counted : l.total + length (padded_text l.rest l.padding) ≡ length (padded_text l.fn.bytes l.padding);
  few : l.total + 6553493446500 * length l.rest ≤ 6553493446500 * length l.fn.bytes;
}

abbrev pub decreases-stretches : goal.decreases-stretches
decreases-stretches l = length l.rest
