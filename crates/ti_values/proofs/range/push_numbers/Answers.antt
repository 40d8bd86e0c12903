use Rattle.std.proofs.Common.{arith}
use Rattle.ti_values.specs.declared.tried.Tried.TheVariants.{Number}
use Rattle.ti_values.proofs.NumbersLemmas.{pushed_more}
use Rattle.ti_values.proofs.range.push_numbers.Goals as goal

pub numbers-preserved : goal.numbers-preserved
numbers-preserved g c =
    (pushed_more (λ n. Number n) c.args.from c.numbers.number _ _ _ (omega arith) c.numbers.invariant.0 c.in_ok-push.ensures.items, λ down. omega arith)
