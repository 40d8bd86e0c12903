use Rattle.std.specs.Prelude.{codes}
use Rattle.ti_line.specs.CommandLine.{file_rule, flag_rule}
use Rattle.ti_line.proofs.command.convert.Goals as goal

pub returns : goal.returns
returns c =
    let first = c.with_two-command.ensures _ (flag_rule (codes "wide")) (flag_rule (codes "narrow")) c.new_command-command.ensures c.flag.ensures.rule c.flag-2.ensures.rule in
    c.with_two.ensures _ (flag_rule (codes "force")) file_rule first c.flag-3.ensures.rule c.file.ensures.rule
