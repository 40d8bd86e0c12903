use Rattle.clap.specs.Words.{with_rule}
use Rattle.ti_line.proofs.command.with_two.Goals as goal

pub returns : goal.returns
returns c app rule other made is its = c.with_one-2.ensures (with_rule app rule) other (c.with_one.ensures app rule made is) its
