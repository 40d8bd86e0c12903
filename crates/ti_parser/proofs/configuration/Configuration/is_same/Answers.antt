use Rattle.std.proofs.Common.{rules}
use Rattle.ti_parser.proofs.SetLemmas.{same_configuration}
use Rattle.ti_parser.proofs.configuration.Configuration.is_same.Goals as goal

pub returns : goal.returns
returns c = same_configuration c.args.self.now c.args.other.now (search rules) (search rules) (search rules) c.if-not-is_same.ensures
