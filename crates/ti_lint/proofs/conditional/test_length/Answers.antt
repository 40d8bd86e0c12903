use Rattle.std.proofs.Common.{sym, ◌∙◌, arith}
use Rattle.ti_lint.proofs.ConditionalsLemmas.{computed_low, next_length}
use Rattle.ti_lint.proofs.conditional.test_length.Goals as goal

pub loop-count-preserved : goal.loop-count-preserved
loop-count-preserved c =
    let l = c.loop-count in
    let e = sym c.computed.ensures ∙ c.in_ok-height.was in (
      sym (next_length c.args.after.now l.count l.height c.in_ok-height.height l.count _ c.loop-count-test.true c.in_default.not-CondThen e) ∙ l.invariant.0,
      omega (arith, computed_low l.height c.in_ok-height.height _ e, l.invariant.1),
    )
