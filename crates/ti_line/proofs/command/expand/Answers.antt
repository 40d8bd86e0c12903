use Rattle.std.specs.Prelude.{codes}
use Rattle.ti_line.specs.CommandLine.{all_names_rule, entry_rule, escape_rule, flag_rule, hex_rule, lines_rule, name_rule, params_rule, rate_rule}
use Rattle.ti_line.proofs.command.expand.Goals as goal

pub returns : goal.returns
returns c =
    let first = c.with_two-command.ensures _ name_rule hex_rule c.new_command-command.ensures c.name.ensures.rule c.hex.ensures.rule in
    let second = c.with_two-command-2.ensures _ escape_rule all_names_rule first c.escape.ensures.rule c.all_names.ensures.rule in
    let third = c.with_two-command-3.ensures _ rate_rule lines_rule second c.number.ensures.rule c.number-2.ensures.rule in
    let fourth = c.with_two-command-4.ensures _ (flag_rule (codes "xon")) entry_rule third c.flag.ensures.rule c.entry.ensures.rule in
    c.with_one.ensures _ params_rule fourth c.params.ensures.rule
