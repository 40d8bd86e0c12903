use Rattle.std.proofs.Common.{subst}
use Rattle.ti_tool.specs.Got.{AreTaken}
use Rattle.ti_tool.specs.Traces.{IsTraced}
use Rattle.ti_tool.proofs.IsGotLemmas.{given_of}
use Rattle.ti_tool.proofs.command.trace.trace_given.Goals as goal

pub returns : goal.returns
returns g c =
    given_of c.args.text.now c.args.given.now (λ ps. IsTraced ps c.args.form c.args.text.now) c.trace_result.result (λ v. v.items) c.values_for-parameters.result c.in_ok-capability.ensures.accepted
    (subst (λ x. AreTaken x c.args.given.now.params c.values_for-parameters.result) c.in_ok-capability.ensures.value c.values_for-parameters.ensures) c.trace_result.ensures
