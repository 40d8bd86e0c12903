use Rattle.std.proofs.Common.{◌≡◌}
use Rattle.ti_tool.proofs.DidLineLemmas.{pair_writes}
use Rattle.ti_tool.proofs.delivery.deliver_last.Goals as goal

pub returns-clause-unwritten : goal.returns-clause-unwritten
returns-clause-unwritten g c = pair_writes c.deliver.result (c.deliver.new.output ≡ c.args.output.now) c.unwrap_or.result c.unwrap_or.ensures c.deliver.ensures.unwritten

pub returns-clause-delivered : goal.returns-clause-delivered
returns-clause-delivered g c = (c.deliver.result, c.deliver.ensures.delivered, c.unwrap_or.ensures, c.deliver.ensures.unwritten)
