use Rattle.std.proofs.Common.{◌≡◌, map, take}
use Rattle.ti_parser.specs.Numbers.{forgotten}
use Rattle.ti_parser.proofs.number.FunctionNumbers.forgotten.Given as goal

abbrev pub invariant-loop-number : goal.invariant-loop-number
invariant-loop-number l = l.all ≡ map forgotten (take l.number-index l.number-items)
