use Rattle.std.proofs.Common.{[], take}
use Rattle.ti_parser.specs.inner.Paths.{EndMore}
use Rattle.ti_parser.proofs.paths.end_all.Given as goal

abbrev pub invariant-loop-receiver : goal.invariant-loop-receiver
invariant-loop-receiver g l = EndMore (take l.receiver-index l.receivers) [] l.ends.items
