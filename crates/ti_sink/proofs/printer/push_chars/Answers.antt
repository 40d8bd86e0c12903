use Rattle.std.specs.Result.{is_ok}
use Rattle.ti_sink.proofs.PrintedLemmas.{goes_on}
use Rattle.ti_sink.proofs.printer.push_chars.Goals as goal

pub returns-clause-kept : goal.returns-clause-kept
returns-clause-kept g c = goes_on (is_ok c.extend_from_slice.result) c.args.out.now.items c.extend_from_slice.new.self.items c.args.chars.now c.requires c.extend_from_slice.ensures.items
