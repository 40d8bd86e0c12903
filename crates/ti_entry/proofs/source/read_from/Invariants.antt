-- What the source lost was fed, and no piece was refused so far.
use Rattle.std.proofs.Common.{◌≡◌, None, ◌-◌, ◌≤◌, length}
use Rattle.ti_base.specs.Limits.{most_entry_bytes}
use Rattle.ti_entry.specs.Reading.{FeedsFrom}
use Rattle.ti_entry.proofs.source.read_from.Given as goal

abbrev pub invariant-source : goal.invariant-source
invariant-source g l = record {
  first : l.initial.reader.refusal ≡ None;
  no_refusal : l.reader.refusal ≡ None;
  within : length l.reader.kept ≤ most_entry_bytes;
  fed : FeedsFrom (g.R.Read.remaining l.initial.source) (g.R.Read.remaining l.source) l.initial.reader l.reader;
}

abbrev pub decreases-source : goal.decreases-source
decreases-source g l = most_entry_bytes - length l.reader.kept
