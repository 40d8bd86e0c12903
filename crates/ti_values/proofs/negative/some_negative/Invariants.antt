-- What is left prints a number below 0 exactly if all does.
use Rattle.std.proofs.Common.{◌≡◌, List, length}
use Rattle.ti_cap.specs.declared.language.Token.{Token}
use Rattle.ti_cap.specs.Spelling.{Written}
use Rattle.ti_expand.specs.Steps.{steps}
use Rattle.ti_values.specs.Negative.{some_negative}
use Rattle.ti_values.proofs.negative.some_negative.Given as goal

abbrev pub invariant-tokens : goal.invariant-tokens
invariant-tokens l = (ks : List Token) → Written ks l.fn.steps.spot.left
    → (rest : List Token) × Written rest l.steps.spot.left
    × (some_negative l.fn.steps.state (steps l.fn.steps.mode l.fn.steps.state ks) ≡ some_negative l.steps.state (steps l.steps.mode l.steps.state rest))

abbrev pub decreases-tokens : goal.decreases-tokens
decreases-tokens l = length l.steps.spot.left
