use Rattle.ti_parser.proofs.SetLemmas.{covers_shape}
use Rattle.ti_parser.proofs.configuration.Configuration.reduce.Goals as goal

pub returns-in-Shape : goal.returns-in-Shape
returns-in-Shape c =
    λ d h. covers_shape c.args.self.now d c.forgotten-self-in-Shape.result c.forgotten-self-in-Shape-2.result c.forgotten-self-in-Shape.ensures c.forgotten-self-in-Shape-2.ensures h
