use Rattle.std.proofs.Common.{◌≡◌, ◌+◌, length}
use Rattle.ti_tool.specs.Streams.{most_contents}
use Rattle.ti_tool.specs.inner.ReadsInto.{ReadsInto}
use Rattle.ti_tool.proofs.store.read_contents.Given as goal

abbrev pub invariant-pieces : goal.invariant-pieces
invariant-pieces g l = record {
  read : ReadsInto (g.R.Read.remaining l.initial.source) (g.R.Read.remaining l.source) l.initial.contents.items l.contents.items;
  count : length l.contents.items + l.room ≡ length l.initial.contents.items + most_contents;
}

abbrev pub decreases-pieces : goal.decreases-pieces
decreases-pieces g l = l.room + l.retries
