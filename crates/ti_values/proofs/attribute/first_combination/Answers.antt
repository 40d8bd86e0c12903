use Rattle.std.proofs.Common.{◌<◌, arith, below_more, length}
use Rattle.std.proofs.lemmas.List.{length-map}
use Rattle.ti_values.specs.Sent.{texts_of}
use Rattle.ti_values.proofs.attribute.first_combination.Goals as goal

pub returns-then-branch : goal.returns-then-branch
returns-then-branch g c =
    let within : c.sets.set < length (texts_of c.args.sent.now) = omega (arith, c.sets-test.true, length-map c.args.sent.now (λ t. t.items)) in
    let (n, low, lacks) = c.in_ok-lacks_some.ensures.0 c.if-branch.true in
    record { exact = ((within, n, low, lacks), λ earlier before at. c.sets.invariant earlier before (at.1, at.2, at.3)) }

pub sets-preserved : goal.sets-preserved
sets-preserved g c =
    below_more _ _ c.sets.invariant (λ lacks. cc (c.in_ok-lacks_some.ensures.1 lacks, c.if-branch.false))

pub returns : goal.returns
returns g c =
    record { exact = λ k at. c.sets.invariant k (omega (arith, at.0, c.sets-test.false, length-map c.args.sent.now (λ t. t.items))) (at.1, at.2, at.3) }
