use Rattle.std.proofs.Common.{rules, arith}
use Rattle.ti_pad.proofs.DigitsValueLemmas.{number_more, number_small}
use Rattle.ti_pad.proofs.number.number.Goals as goal

pub overflow_mul-value : goal.overflow_mul-value
overflow_mul-value c =
    omega (arith, c.loop-digit.invariant.value, number_small c.args.digits.now c.loop-digit.digit-index c.requires.digits c.requires.few)

pub overflow_add-value : goal.overflow_add-value
overflow_add-value c =
    omega (arith, c.loop-digit.invariant.value, number_small c.args.digits.now c.loop-digit.digit-index c.requires.digits c.requires.few)

pub loop-digit-preserved : goal.loop-digit-preserved
loop-digit-preserved c = record {
  value = number_more c.args.digits.now c.loop-digit.digit-index c.loop-digit.value c.from.result c.requires.digits (search rules) c.loop-digit.invariant.value (search rules);
}

pub returns-clause-most : goal.returns-clause-most
returns-clause-most c =
    omega (arith, c.loop-digit.invariant.value, number_small c.args.digits.now c.loop-digit.digit-index c.requires.digits c.requires.few)
