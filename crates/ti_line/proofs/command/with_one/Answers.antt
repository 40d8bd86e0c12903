use Rattle.std.proofs.Common.{◌≡◌, ◌∙◌, ◌||◌, ap, ap₂, subst}
use Rattle.std.specs.Result.{result_from_control_flow}
use Rattle.std.proofs.lemmas.Result.{IfOk-weaker}
use Rattle.clap.specs.Words.{app_of, with_rule}
use Rattle.ti_line.specs.inner.Command.{HasNoGlobals, Makes}
use Rattle.ti_line.proofs.command.with_one.Goals as goal

pub returns : goal.returns
returns c app rule made is =
    let is_ok = c.branch-command.ensures ∙ ap result_from_control_flow c.in_ok-command.is in
    let it : (app_of c.in_ok-command.field-0 ≡ app) × HasNoGlobals c.in_ok-command.field-0 = subst (λ r. Makes app r) is_ok made in
    IfOk-weaker c.arg.result _ _ (λ r h. (h.shape c.requires.local ∙ ap₂ with_rule it.0 is, h.globals ∙ ap₂ (λ x y. x || y) it.1 c.requires.local)) c.arg.ensures
