use Rattle.ti_line.specs.CommandLine.{all_names_rule, entry_rule, escape_rule, files_rule, json_rule}
use Rattle.ti_line.proofs.command.show.Goals as goal

pub returns : goal.returns
returns c =
    let first = c.with_two-command.ensures _ escape_rule all_names_rule c.new_command-command.ensures c.escape.ensures.rule c.all_names.ensures.rule in
    let second = c.with_two-command-2.ensures _ json_rule entry_rule first c.json.ensures.rule c.entry.ensures.rule in
    c.with_one.ensures _ files_rule second c.files.ensures.rule
