use Rattle.std.specs.Prelude.{codes}
use Rattle.ti_line.specs.CommandLine.{color_rule, entry_rule, files_rule, flag_rule, json_rule}
use Rattle.ti_line.proofs.command.lint.Goals as goal

pub returns : goal.returns
returns c =
    let first = c.with_two-command.ensures _ (flag_rule (codes "all")) (flag_rule (codes "untrusted")) c.new_command-command.ensures c.flag.ensures.rule c.flag-untrusted.ensures.rule in
    let second = c.with_two-command-2.ensures _ (flag_rule (codes "summary")) (flag_rule (codes "explain")) first c.flag-2.ensures.rule c.flag-explain.ensures.rule in
    let third = c.with_two-command-3.ensures _ json_rule color_rule second c.json.ensures.rule c.color.ensures.rule in
    c.with_two.ensures _ entry_rule files_rule third c.entry.ensures.rule c.files.ensures.rule
