-- Nothing of the source is lost while reads are interrupted.
use Rattle.std.specs.Io.KnownBytes.{Keeps}
use Rattle.ti_base.proofs.source.read_piece.Given as goal

abbrev pub invariant-tries : goal.invariant-tries
invariant-tries g l = Keeps (g.R.Read.remaining l.initial.source) (g.R.Read.remaining l.source)

abbrev pub decreases-tries : goal.decreases-tries
decreases-tries g l = l.retries
