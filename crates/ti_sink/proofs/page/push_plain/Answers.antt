use Rattle.std.specs.Result.{is_ok}
use Rattle.ti_sink.proofs.PagesLemmas.{stays}
use Rattle.ti_sink.proofs.page.push_plain.Goals as goal

pub returns-clause-stays : goal.returns-clause-stays
returns-clause-stays g c = stays (is_ok c.extend_from_slice.result) c.args.out.now.items c.extend_from_slice.new.self.items c.args.chars.now c.requires c.extend_from_slice.ensures.items
