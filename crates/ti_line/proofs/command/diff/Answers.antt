use Rattle.std.specs.Prelude.{codes}
use Rattle.ti_line.specs.CommandLine.{color_rule, files_rule, flag_rule, json_rule}
use Rattle.ti_line.proofs.command.diff.Goals as goal

pub returns : goal.returns
returns c =
    let first = c.with_two-command.ensures _ (flag_rule (codes "expand")) json_rule c.new_command-command.ensures c.flag.ensures.rule c.json.ensures.rule in
    c.with_two.ensures _ color_rule files_rule first c.color.ensures.rule c.files.ensures.rule
