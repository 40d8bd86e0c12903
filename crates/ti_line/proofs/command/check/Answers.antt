use Rattle.std.specs.Prelude.{codes}
use Rattle.ti_line.specs.CommandLine.{all_names_rule, entry_rule, escape_rule, files_rule, flag_rule, json_rule}
use Rattle.ti_line.proofs.command.check.Goals as goal

pub returns : goal.returns
returns c =
    let first = c.with_two-command.ensures _ escape_rule all_names_rule c.new_command-command.ensures c.escape.ensures.rule c.all_names.ensures.rule in
    let second = c.with_two-command-2.ensures _ (flag_rule (codes "faults")) json_rule first c.flag.ensures.rule c.json.ensures.rule in
    c.with_two.ensures _ entry_rule files_rule second c.entry.ensures.rule c.files.ensures.rule
