use Rattle.ti_expand.proofs.OctalPrefixLemmas.{octal_front}
use Rattle.ti_expand.proofs.print.front_bytes.Goals as goal

pub returns-in-Octal : goal.returns-in-Octal
returns-in-Octal c = octal_front c.args.format.now c.args.number c.args.zeros c.in-Octal.is c.if-format-3.true c.if-zeros-eq0.true c.ranges.number
