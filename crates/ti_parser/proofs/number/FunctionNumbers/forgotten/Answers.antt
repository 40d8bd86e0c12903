use Rattle.std.proofs.Common.{ap, arith, length, take}
use Rattle.std.proofs.lemmas.List.{length-map, length-take-le}
use Rattle.ti_parser.specs.Numbers.{forgotten}
use Rattle.ti_parser.proofs.number.FunctionNumbers.forgotten.Goals as goal

pub push-requires : goal.push-requires
push-requires c =
    omega (
      arith,
      ap length c.loop-number.invariant,
      length-map (take c.loop-number.number-index c.as_slice-number-items.result.now) forgotten,
      length-take-le c.loop-number.number-index c.as_slice-number-items.result.now (omega arith),
    )
