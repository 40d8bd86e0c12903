use Rattle.std.proofs.Common.{List, sym, ◌∙◌, subst, arith}
use Rattle.ti_cap.specs.declared.language.Token.{Token}
use Rattle.ti_cap.specs.declared.language.Token.TheVariants.{CondOpen}
use Rattle.ti_lint.specs.inner.Conditionals.{LeavesValue}
use Rattle.ti_lint.proofs.ConditionalsLemmas.{constants_there, constants_back, no_constants, rest_of}
use Rattle.ti_lint.proofs.conditional.constant_test.Goals as goal
use Rattle.ti_lint.proofs.conditional.constant_test.Goals.{else-start-gt0-via-then-start-gt0+then-starts_test+else-leaves_value, else-start-gt0-via-then-start-gt0+else-starts_test, else-start-gt0-via-else-start-gt0}

pub returns-then-leaves_value-clause-test : goal.returns-then-leaves_value-clause-test
returns-then-leaves_value-clause-test c =
    let before = c.args.before.now in
    let start = c.constants_start-start.result in
    let P : List Token → Type 0 = λ x. LeavesValue x in
    let t = constants_there before start _ c.constants_start-start.ensures c.if-start-gt0.true (sym c.starts_test.ensures ∙ c.if-starts_test.true)
    (subst P (rest_of before start) (c.leaves_value.ensures.0 c.if-leaves_value.true)) in
    (t.0, t.1 ∙ sym (rest_of before start))

pub returns-clause-none : goal.returns-clause-none
returns-clause-none c r =
    let before = c.args.before.now in
    let start = c.constants_start-start.result in
    let from = c.constants_start-start.ensures in
    let P : List Token → Type 0 = λ x. LeavesValue x in
    elim c.else-start-gt0.branch [
      | else-start-gt0-via-then-start-gt0+then-starts_test+else-leaves_value w ↦
          let yes = w.leaves_value.ensures.1 (subst P (sym (rest_of before start)) (constants_back before start CondOpen from r).2) in absurd (cc (yes, w.if-leaves_value.false))
      | else-start-gt0-via-then-start-gt0+else-starts_test w ↦ absurd (no_constants before start _ from (λ some. sym w.starts_test.ensures ∙ w.if-starts_test.false) r)
      | else-start-gt0-via-else-start-gt0 w ↦ absurd (omega (arith, (constants_back before start CondOpen from r).0, w.if-start-gt0.false))
    ]
