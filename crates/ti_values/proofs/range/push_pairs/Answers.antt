use Rattle.std.proofs.Common.{arith}
use Rattle.ti_values.specs.declared.tried.Tried.TheVariants.{Two}
use Rattle.ti_values.proofs.NumbersLemmas.{pushed_more}
use Rattle.ti_values.proofs.range.push_pairs.Goals as goal

pub seconds-preserved : goal.seconds-preserved
seconds-preserved g c =
    (pushed_more (λ second. Two c.args.first second) c.args.from c.seconds.second _ _ _ (omega arith) c.seconds.invariant.0 c.in_ok-push.ensures.items, λ down. omega arith)
