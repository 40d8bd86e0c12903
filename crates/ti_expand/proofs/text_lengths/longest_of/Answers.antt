use Rattle.std.proofs.Common.{arith}
use Rattle.ti_expand.proofs.AreShortLemmas.{short_more, first_too_long}
use Rattle.ti_expand.proofs.text_lengths.longest_of.Goals as goal

pub loop-i-preserved : goal.loop-i-preserved
loop-i-preserved c =
    short_more c.args.parameters.now c.loop-i.i c.loop-i.longest c.text_len-len.result c.max-longest.result (omega (arith, c.told-parameters))
    c.loop-i.invariant c.text_len-len.ensures.len c.text_len-len.ensures.sound c.if-len-gt-MOST_TEXT_BYTES.false c.max-longest.ensures

pub returns-then-len-gt-MOST_TEXT_BYTES-clause-too_long : goal.returns-then-len-gt-MOST_TEXT_BYTES-clause-too_long
returns-then-len-gt-MOST_TEXT_BYTES-clause-too_long c =
    first_too_long c.args.parameters.now c.loop-i.i c.loop-i.longest c.text_len-len.result c.loop-i.invariant c.text_len-len.ensures.len c.if-len-gt-MOST_TEXT_BYTES.true
