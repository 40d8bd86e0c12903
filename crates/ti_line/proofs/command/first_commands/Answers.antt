use Rattle.ti_line.specs.CommandLine.{check_app, get_app, lint_app, show_app}
use Rattle.ti_line.proofs.command.first_commands.Goals as goal

pub returns : goal.returns
returns c =
    let shown = c.with_made-shown.ensures _ show_app c.start.ensures c.show.ensures in
    let checked = c.with_made-checked.ensures _ check_app shown c.check.ensures in
    let linted = c.with_made-linted.ensures _ lint_app checked c.lint.ensures in
    c.with_made.ensures _ get_app linted c.get.ensures
