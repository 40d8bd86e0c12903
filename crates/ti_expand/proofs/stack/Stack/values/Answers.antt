use Rattle.ti_expand.proofs.StackInLemmas.{reverse-take}
use Rattle.ti_expand.proofs.stack.Stack.values.Goals as goal

pub returns : goal.returns
returns c = reverse-take c.args.self.now.slots.now c.args.self.now.height c.args.self.now.within
