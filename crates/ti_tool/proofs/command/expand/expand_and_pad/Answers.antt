use Rattle.std.proofs.Common.{subst, sym}
use Rattle.std.proofs.lemmas.Result.{err_from_is_err_and}
use Rattle.ti_tool.proofs.IsGotLemmas.{expanded_of}
use Rattle.ti_tool.proofs.NeedsMemoryLemmas.{unexpanded_due}
use Rattle.ti_tool.specs.Expansions.{IsExpansion}
use Rattle.ti_tool.proofs.command.expand.expand_and_pad.Goals as goal

pub returns-in_err-plain : goal.returns-in_err-plain
returns-in_err-plain g c =
    let p = err_from_is_err_and c.from_residual.result c.from_residual.ensures.1 in
    rw (p.1, p.2) (unexpanded_due c.args.text.now c.args.parameters.now c.args.padding.now c.args.output c.in_err-plain.field-0.0 c.in_err-plain.ensures.refused)

pub returns : goal.returns
returns g c =
    expanded_of c.padded_output.result (λ v. v.items) c.args.text.now c.args.parameters.now c.args.padding.now c.args.output c.as_slice.result.now
    c.in_ok-plain.ensures.accepted (subst (λ x. IsExpansion c.args.text.now c.args.parameters.now x) (sym c.as_slice.ensures.value) c.in_ok-plain.ensures.output) c.padded_output.ensures
