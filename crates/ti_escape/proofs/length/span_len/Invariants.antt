-- What is counted and the notation of the rest are the notation of the span; no byte has more than four characters.
use Rattle.std.proofs.Common.{◌≡◌, ◌+◌, ◌*◌, ◌≤◌, length}
use Rattle.ti_escape.specs.inner.Stretch.{span_notation}
use Rattle.ti_escape.proofs.length.span_len.Given as goal

abbrev pub invariant-stretches : goal.invariant-stretches
invariant-stretches l = record {
  counted : l.total + length (span_notation l.rest) ≡ length (span_notation l.fn.span);
  few : l.total + 4 * length l.rest.bytes.now ≤ 4 * length l.fn.span.bytes.now;
}

abbrev pub decreases-stretches : goal.decreases-stretches
decreases-stretches l = length l.rest.bytes.now
