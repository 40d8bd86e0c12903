use Rattle.std.proofs.Common.{sym, ◌∙◌, arith}
use Rattle.ti_lint.proofs.ConditionalsLemmas.{computed_low, next_value}
use Rattle.ti_lint.proofs.conditional.values_left.Goals as goal

pub loop-token-preserved : goal.loop-token-preserved
loop-token-preserved c =
    let l = c.loop-token in
    let e = sym c.computed.ensures ∙ c.in_ok-height.was in (
      sym (next_value c.args.test.now l.token-index l.height c.in_ok-height.height _ c.loop-token-test.true e) ∙ l.invariant.0,
      omega (arith, computed_low l.height c.in_ok-height.height _ e, l.invariant.1),
    )
