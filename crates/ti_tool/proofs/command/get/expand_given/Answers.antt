use Rattle.std.proofs.Common.{subst}
use Rattle.ti_tool.specs.Expansions.{IsPadded}
use Rattle.ti_tool.specs.Got.{AreTaken}
use Rattle.ti_tool.proofs.IsGotLemmas.{given_of}
use Rattle.ti_tool.proofs.command.get.expand_given.Goals as goal

pub returns : goal.returns
returns g c =
    given_of c.args.text.now c.args.given.now (λ ps. IsPadded c.args.text.now ps c.args.padding.now c.args.output) c.expand_and_pad.result (λ v. v.items) c.values_for-parameters.result c.in_ok-capability.ensures.accepted
    (subst (λ x. AreTaken x c.args.given.now.params c.values_for-parameters.result) c.in_ok-capability.ensures.value c.values_for-parameters.ensures) c.expand_and_pad.ensures
