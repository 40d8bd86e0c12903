use Rattle.std.proofs.Common.{rules}
use Rattle.ti_parser.proofs.SetLemmas.{stands}
use Rattle.ti_parser.proofs.receiver.Receiver.stands_for.Goals as goal

pub returns : goal.returns
returns c = stands c.args.self.now c.args.other.now (search rules) c.if-not-has_less.ensures c.if-not-is_same.ensures
