use Rattle.std.proofs.Common.{suc, get_or, ap, ◌∙◌, arith}
use Rattle.ti_cap.proofs.OriginsLemmas.{pushed_sets}
use Rattle.ti_cap.proofs.origins.Origins.push.Goals as goal

pub returns : goal.returns
returns c = ap (λ x. record { sets = x }) (pushed_sets c.args.self.now.sets c.copy_within.new.self c.args.set (omega arith) (omega (arith, c.copy_within.ensures.len))
    (λ k d low. c.copy_within.ensures.by_index.0 (suc k) d (omega arith) (omega arith) ∙ ap (λ i. get_or c.args.self.now.sets i d) (omega arith)))
