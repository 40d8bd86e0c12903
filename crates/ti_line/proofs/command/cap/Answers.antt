use Rattle.ti_line.specs.CommandLine.{escape_rule, hex_rule, params_rule, source_rule}
use Rattle.ti_line.proofs.command.cap.Goals as goal

pub returns : goal.returns
returns c =
    let first = c.with_two-command.ensures _ source_rule hex_rule c.new_command-command.ensures c.source.ensures.rule c.hex.ensures.rule in
    c.with_two.ensures _ escape_rule params_rule first c.escape.ensures.rule c.params.ensures.rule
