use Rattle.std.proofs.Common.{arith}
use Rattle.std.proofs.lemmas.Bool.{lt-ltb, le-ltb}
use Rattle.ti_layout.proofs.StageStepLemmas.{waits}
use Rattle.ti_layout.proofs.stage.Stage.bytes_awaited.Goals as goal

pub returns-then-self-gt0-clause-waits : goal.returns-then-self-gt0-clause-waits
returns-then-self-gt0-clause-waits c = λ bytes k short. waits bytes c.args.self.now k (rw (lt-ltb 0 c.args.self.now.items.left c.if-self-gt0.true) (omega arith))

pub returns-clause-waits : goal.returns-clause-waits
returns-clause-waits c = λ bytes k short. waits bytes c.args.self.now k (rw (le-ltb 0 c.args.self.now.items.left (omega arith)) (omega arith))
