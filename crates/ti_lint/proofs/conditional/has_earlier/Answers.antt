use Rattle.std.proofs.Common.{refl}
use Rattle.ti_lint.proofs.ConditionalsLemmas.{no_earlier, is_earlier}
use Rattle.ti_lint.proofs.conditional.has_earlier.Goals as goal

pub returns-then-closed-eq0 : goal.returns-then-closed-eq0
returns-then-closed-eq0 c =
    let l = c.back in
    ((λ t. absurd (cc)), (λ h. absurd (no_earlier c.args.before.now c.args.test.now l.place l.closed _ c.back-test.true l.invariant.0 l.invariant.2 c.if-closed-eq0.true c.in-CondOpen.is h)))

pub returns-then-ends_with_test : goal.returns-then-ends_with_test
returns-then-ends_with_test c =
    let l = c.back in
    ((λ t. is_earlier c.args.before.now c.args.test.now l.place l.closed _ c.back-test.true l.invariant.0 l.invariant.2 c.if-closed-eq0-2.true c.in-CondThen.is (c.ends_with_test.ensures.0 c.if-ends_with_test.true)), (λ h. refl))
