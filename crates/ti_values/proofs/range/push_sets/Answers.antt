use Rattle.std.proofs.Common.{◌≡◌, ◌++◌, ◌∙◌, ap, arith, map}
use Rattle.ti_values.specs.declared.tried.Tried.TheVariants.{Attributes}
use Rattle.ti_values.specs.Ranges.{numbers}
use Rattle.ti_values.proofs.NumbersLemmas.{pushed_more}
use Rattle.ti_values.proofs.range.push_sets.Goals as goal

pub sets-preserved : goal.sets-preserved
sets-preserved g c =
    pushed_more (λ set. Attributes set) 0 c.sets.set _ _ _ (omega arith) c.sets.invariant c.in_ok-push.ensures.items

pub returns : goal.returns
returns g c =
    let all : c.sets.set ≡ 512 = omega arith in
    c.sets.invariant ∙ ap (λ k. c.args.list.now.items ++ map (λ set. Attributes set) (numbers 0 k)) all
