use Rattle.std.proofs.Common.{arith}
use Rattle.std.proofs.lemmas.Grind.{common_steps}
use Rattle.ti_pad.specs.inner.Mark.{mark_of}
use Rattle.ti_pad.proofs.PaddedTextLemmas.{text-literal, text-marked}
use Rattle.ti_pad.proofs.stretch.first_stretch.Goals as goal

pub returns-in-Some-clause-text : goal.returns-in-Some-clause-text
returns-in-Some-clause-text c =
    text-marked c.args.bytes.now c.in-Some.found.rest.now (mark_of c.in-Some.found.mark) c.args.padding.now c.count.result
    c.in-Some.ensures.mark c.in-Some.ensures.rest c.count.ensures.value

pub returns-in-None-clause-text : goal.returns-in-None-clause-text
returns-in-None-clause-text c =
    text-literal c.args.bytes.now c.args.padding.now c.plain_len-len.result c.in-None.ensures.mark c.requires c.plain_len-len.ensures.count

pub returns-in-Some-clause-shorter : goal.returns-in-Some-clause-shorter
returns-in-Some-clause-shorter c = grind (arith, common_steps)

pub returns-in-Some-clause-few : goal.returns-in-Some-clause-few
returns-in-Some-clause-few c = grind (arith, common_steps)
