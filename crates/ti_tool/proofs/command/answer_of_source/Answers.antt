use Rattle.std.proofs.Common.{◌∙◌, sym}
use Rattle.std.proofs.lemmas.Result.{err_from_is_err_and}
use Rattle.ti_tool.specs.Results.{IsOutputOf}
use Rattle.ti_tool.proofs.SourcesLemmas.{fault_due, name_due, text_due}
use Rattle.ti_tool.proofs.command.answer_of_source.Goals as goal

pub returns-in_err-len : goal.returns-in_err-len
returns-in_err-len g c =
    let p = err_from_is_err_and c.from_residual.result c.from_residual.ensures.1 in
    rw (p.1, p.2) (fault_due (IsOutputOf c.args.output c.args.parameters.now) c.args.input.now c.in_err-len.field-0.0 (sym c.has_name.ensures ∙ c.if-has_name.false) c.in_err-len.ensures.fault)

pub returns-then-has_name : goal.returns-then-has_name
returns-then-has_name g c = name_due (IsOutputOf c.args.output c.args.parameters.now) c.args.input.now (sym c.has_name.ensures ∙ c.if-has_name.true)

pub returns : goal.returns
returns g c = text_due (IsOutputOf c.args.output c.args.parameters.now) c.args.input.now c.answer_of_capability.result (λ v. v.items) _ (sym c.has_name.ensures ∙ c.if-has_name.false) c.in_ok-len.ensures.text c.answer_of_capability.ensures
