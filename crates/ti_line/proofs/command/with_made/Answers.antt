use Rattle.std.proofs.Common.{◌≡◌, ◌∙◌, ◌||◌, ap, ap₂, subst}
use Rattle.std.specs.Result.{result_from_control_flow}
use Rattle.std.proofs.lemmas.Result.{IfOk-weaker}
use Rattle.clap.specs.Words.{App, app_of, with_subcommand}
use Rattle.ti_line.specs.inner.Command.{HasNoGlobals, Makes}
use Rattle.ti_line.proofs.command.with_made.Goals as goal

pub returns : goal.returns
returns c before app program made =
    let first_ok = c.branch-program.ensures ∙ ap result_from_control_flow c.in_ok-program.is in
    let first : (app_of c.in_ok-program.program ≡ before) × HasNoGlobals c.in_ok-program.program = subst (λ r. Makes before r) first_ok program in
    let other_ok = c.branch-made.ensures ∙ ap result_from_control_flow c.in_ok-made.is in
    let other : (app_of c.in_ok-made.field-0 ≡ app) × HasNoGlobals c.in_ok-made.field-0 = subst (λ r. Makes app r) other_ok made in
    IfOk-weaker c.subcommand.result _ _ (λ r h. (h.shape other.1 ∙ ap₂ (λ (a b : App). with_subcommand a b.top) first.0 other.0, h.globals ∙ ap₂ (λ x y. x || y) first.1 other.1)) c.subcommand.ensures
