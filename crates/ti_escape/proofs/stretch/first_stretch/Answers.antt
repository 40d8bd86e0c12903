use Rattle.std.proofs.Common.{arith, ◌<◌}
use Rattle.std.proofs.lemmas.Grind.{common_steps}
use Rattle.ti_escape.proofs.NotationLemmas.{plain-stretch}
use Rattle.ti_escape.proofs.stretch.first_stretch.Goals as goal

pub returns-in_default-clause-notation : goal.returns-in_default-clause-notation
returns-in_default-clause-notation c =
    let some : 0 < c.plain_len.result = omega arith in
    let after = c.without-in_default.ensures in
    plain-stretch c.args.span.space _ c.args.span.before _ c.args.span.bytes.now _ c.plain_len.result c.plain_len.ensures.count some after.space after.before after.bytes

pub returns-in_default-clause-shorter : goal.returns-in_default-clause-shorter
returns-in_default-clause-shorter c = grind (arith, common_steps)

pub returns-in_default-clause-few : goal.returns-in_default-clause-few
returns-in_default-clause-few c = grind (arith, common_steps)
