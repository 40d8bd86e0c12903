-- What the writer took so far are the first `written` bytes; each turn writes or is an interruption.
use Rattle.std.proofs.Common.{◌≡◌, [], length, ◌-◌, ◌+◌, ◌≤◌, take}
use Rattle.std.specs.Io.KnownBytes.{Appends}
use Rattle.ti_tool.proofs.noted.write_noted.Given as goal

abbrev pub invariant-writes : goal.invariant-writes
invariant-writes g l = record {
  within : l.written ≤ length l.bytes;
  taken : Appends (g.W.Write.contents l.initial.writer) (g.W.Write.contents l.writer) (take l.written l.bytes);
  nothing : l.bytes ≡ [] → l.writer ≡ l.initial.writer;
}

abbrev pub decreases-writes : goal.decreases-writes
decreases-writes g l = (length l.bytes - l.written) + l.retries
