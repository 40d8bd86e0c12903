use Rattle.std.proofs.Common.{◌≡◌, ◌+◌, arith, length, rules}
use Rattle.ti_tool.proofs.IsGotLemmas.{taken_more}
use Rattle.ti_tool.proofs.given_values.values_for.Goals as goal

pub loop-i-preserved : goal.loop-i-preserved
loop-i-preserved c =
    let nine : length c.args.params ≡ 9 = search rules in
    let texts = c.parameters.ensures.texts (c.loop-i.i + 1) in
    record {
      same = search rules;
      taken = taken_more c.args.capability.now c.args.params c.loop-i.i _ c.loop-i.values c.value_of.result (omega (arith, nine, c.loop-i-test.true)) c.loop-i.invariant.same c.loop-i.invariant.taken
          (c.value_of.ensures c.args.capability.now (c.loop-i.i + 1) (λ t. texts.0 (c.contains.ensures.exact.0 t), λ t. c.contains.ensures.exact.1 (texts.1 t)));
    }
