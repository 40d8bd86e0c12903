use Rattle.std.proofs.Common.{length, ap, arith}
use Rattle.ti_expand.proofs.DecimalLemmas.{decimal_digits-one, decimal_digits-two, decimal_digits-three}
use Rattle.ti_expand.proofs.print.put_decimal.Goals as goal

pub returns-then-amount-lt10-clause-end : goal.returns-then-amount-lt10-clause-end
returns-then-amount-lt10-clause-end c = rw (decimal_digits-one c.args.amount c.if-amount-lt10.true) c.put.ensures.end

pub returns-then-amount-lt10-clause-written : goal.returns-then-amount-lt10-clause-written
returns-then-amount-lt10-clause-written c = rw (decimal_digits-one c.args.amount c.if-amount-lt10.true) c.put.ensures.written

pub put-requires-then-amount-lt100 : goal.put-requires-then-amount-lt100
put-requires-then-amount-lt100 c = omega (arith, c.requires.room, ap length (decimal_digits-two c.args.amount c.if-amount-lt10.false c.if-amount-lt100.true))

pub returns-then-amount-lt100-clause-end : goal.returns-then-amount-lt100-clause-end
returns-then-amount-lt100-clause-end c = rw (decimal_digits-two c.args.amount c.if-amount-lt10.false c.if-amount-lt100.true) c.put-then-amount-lt100.ensures.end

pub returns-then-amount-lt100-clause-written : goal.returns-then-amount-lt100-clause-written
returns-then-amount-lt100-clause-written c = rw (decimal_digits-two c.args.amount c.if-amount-lt10.false c.if-amount-lt100.true) c.put-then-amount-lt100.ensures.written

pub put-requires-2 : goal.put-requires-2
put-requires-2 c = omega (arith, c.requires.room, ap length (decimal_digits-three c.args.amount c.if-amount-lt100.false c.requires.small))

pub returns-clause-end : goal.returns-clause-end
returns-clause-end c = rw (decimal_digits-three c.args.amount c.if-amount-lt100.false c.requires.small) c.put-2.ensures.end

pub returns-clause-written : goal.returns-clause-written
returns-clause-written c = rw (decimal_digits-three c.args.amount c.if-amount-lt100.false c.requires.small) c.put-2.ensures.written
