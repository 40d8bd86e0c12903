use Rattle.std.proofs.Common.{get_or, ap, ◌∙◌, arith}
use Rattle.ti_cap.specs.inner.Gathering.{no_parameter}
use Rattle.ti_cap.proofs.OriginsLemmas.{popped_sets}
use Rattle.ti_cap.proofs.origins.Origins.pop.Goals as goal

pub returns : goal.returns
returns c = ap (λ x. record { sets = x }) (popped_sets c.args.self.now.sets c.copy_within.new.self no_parameter (omega arith) (omega (arith, c.copy_within.ensures.len))
    (λ k d low. c.copy_within.ensures.by_index.0 k d (omega arith) (omega arith) ∙ ap (λ i. get_or c.args.self.now.sets i d) (omega arith)))
