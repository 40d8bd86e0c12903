-- What is put and the notation of the rest are the notation of the span; the bytes after it are as before.
use Rattle.std.proofs.Common.{◌≡◌, ◌≤◌, ◌++◌, length, take, drop}
use Rattle.ti_escape.specs.inner.Stretch.{span_notation}
use Rattle.ti_escape.proofs.slice.put_span.Given as goal

abbrev pub invariant-stretches : goal.invariant-stretches
invariant-stretches l = record {
  within : l.end ≤ length l.out;
  made : take l.end l.out ++ span_notation l.rest ≡ take l.fn.at l.fn.out ++ span_notation l.fn.span;
  kept : drop l.end l.out ≡ drop l.end l.fn.out;
}

abbrev pub decreases-stretches : goal.decreases-stretches
decreases-stretches l = length l.rest.bytes.now
