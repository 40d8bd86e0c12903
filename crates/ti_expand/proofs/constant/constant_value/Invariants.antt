-- What is left to go over leads to the same stack.
use Rattle.std.proofs.Common.{◌≡◌, [], drop}
use Rattle.ti_expand.specs.Constants.{stack_after}
use Rattle.ti_expand.specs.inner.Numbers.{stack_of}
use Rattle.ti_expand.proofs.constant.constant_value.Given as goal

abbrev pub invariant-tokens : goal.invariant-tokens
invariant-tokens g l = stack_after (stack_of l.numbers.items) (drop l.token-index l.tokens) ≡ stack_after [] l.tokens
