use Rattle.std.proofs.Common.{None, Some}
use Rattle.ti_rules.proofs.NameBytesLemmas.{empty_is}
use Rattle.ti_rules.proofs.name_bytes.first_empty.Goals as goal

pub returns-in-Some : goal.returns-in-Some
returns-in-Some c = empty_is c.args.aliases.now c.starts_empty.result c.starts_empty.ensures.exact c.if-starts_empty.false (Some c.in-Some.at) c.in-Some.ensures.first

pub returns-in-None : goal.returns-in-None
returns-in-None c = empty_is c.args.aliases.now c.starts_empty.result c.starts_empty.ensures.exact c.if-starts_empty.false None c.in-None.ensures.first
