use Rattle.ti_line.specs.CommandLine.{color_rule, entry_rule, escape_rule, json_rule, of_rule, params_rule, source_rule}
use Rattle.ti_line.proofs.command.trace.Goals as goal

pub returns : goal.returns
returns c =
    let first = c.with_two-command.ensures _ source_rule of_rule c.new_command-command.ensures c.source.ensures.rule c.of.ensures.rule in
    let second = c.with_two-command-2.ensures _ escape_rule json_rule first c.escape.ensures.rule c.json.ensures.rule in
    let third = c.with_two-command-3.ensures _ color_rule entry_rule second c.color.ensures.rule c.entry.ensures.rule in
    c.with_one.ensures _ params_rule third c.params.ensures.rule
