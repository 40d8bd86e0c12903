use Rattle.std.proofs.Common.{◌∙◌, List, ap, sym}
use Rattle.ti_cap.specs.declared.language.Token.{Token}
use Rattle.ti_expand.specs.Steps.{steps}
use Rattle.ti_values.specs.Negative.{some_negative}
use Rattle.ti_values.proofs.NegativeLemmas.{none_left}
use Rattle.ti_values.proofs.negative.some_negative.Goals as goal

pub returns : goal.returns
returns c = λ ks writes.
    let now = c.tokens.steps in
    let (rest, left, same) = c.tokens.invariant ks writes in
    sym (same ∙ ap (λ (l : List Token). some_negative now.state (steps now.mode now.state l)) (none_left rest now.spot.left c.in_default.ensures.none.1 left))
