use Rattle.std.proofs.Common.{ap, arith, length}
use Rattle.ti_pad.proofs.DelayLemmas.{total_first, total_none}
use Rattle.ti_pad.proofs.delay.total_delay.Goals as goal

pub bytes-preserved : goal.bytes-preserved
bytes-preserved c =
    let all = c.in-Some.ensures.cases.0 in
    record {
      counted = omega (arith, total_first c.bytes.rest.now _ _ all, c.bytes.invariant.counted, c.delay_at.ensures.value);
      few = omega (arith, ap length all, c.bytes.invariant.few, c.delay_at.ensures.most);
    }

pub returns : goal.returns
returns c = record { exact = omega (arith, total_none c.bytes.rest.now c.in_default.ensures.cases, c.bytes.invariant.counted) }
