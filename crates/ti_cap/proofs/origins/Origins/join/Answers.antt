use Rattle.std.proofs.Common.{ap, arith}
use Rattle.ti_cap.proofs.OriginsLemmas.{joined_sets}
use Rattle.ti_cap.proofs.origins.Origins.join.Goals as goal

pub returns : goal.returns
returns c = ap (λ x. record { sets = x }) (joined_sets c.args.self.now.sets c.args.other.now.sets c.loop-i.self.sets (omega arith) (omega arith) c.loop-i.invariant.long
    (λ k low. c.loop-i.invariant.joined k (omega arith)))
