use Rattle.std.proofs.Common.{sym, ◌∙◌, ap, arith, drop, true, false}
use Rattle.std.specs.Prelude.{Some, None}
use Rattle.std.proofs.lemmas.List.{drop_all}
use Rattle.ti_lint.specs.inner.Conditionals.{stays_idle}
use Rattle.ti_lint.proofs.ConditionalsLemmas.{idle_next, idle_ends, idle_low, effect_decided}
use Rattle.ti_lint.proofs.conditional.has_no_effect.Goals as goal

pub loop-token-preserved : goal.loop-token-preserved
loop-token-preserved c =
    let l = c.loop-token in
    let is = sym c.after.ensures ∙ c.in-Some.is in (
      sym (idle_next c.args.after.now l.token-index l.part _ (Some c.in-Some.next) c.loop-token-test.true (sym c.ends_at.ensures ∙ c.if-ends_at.false) is) ∙ l.invariant.0,
      omega (arith, idle_low l.part c.in-Some.next _ is, l.invariant.1),
    )

pub returns-then-ends_at : goal.returns-then-ends_at
returns-then-ends_at c =
    let l = c.loop-token in
    effect_decided c.args.after.now l.part (drop l.token-index c.args.after.now) true l.invariant.0
    (idle_ends c.args.after.now l.token-index l.part _ c.loop-token-test.true (sym c.ends_at.ensures ∙ c.if-ends_at.true))

pub returns-in_default : goal.returns-in_default
returns-in_default c =
    let l = c.loop-token in
    effect_decided c.args.after.now l.part (drop l.token-index c.args.after.now) false l.invariant.0
    (idle_next c.args.after.now l.token-index l.part _ None c.loop-token-test.true (sym c.ends_at.ensures ∙ c.if-ends_at.false) (sym c.after.ensures ∙ c.in_default.is))

pub returns : goal.returns
returns c =
    let l = c.loop-token in
    effect_decided c.args.after.now l.part (drop l.token-index c.args.after.now) c.may_end.result l.invariant.0
    (ap (λ x. stays_idle (Some l.part) x) (drop_all l.token-index c.args.after.now c.loop-token-test.false) ∙ sym c.may_end.ensures)
