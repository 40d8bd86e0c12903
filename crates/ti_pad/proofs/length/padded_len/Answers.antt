use Rattle.std.proofs.Common.{rules}
use Rattle.ti_pad.proofs.PaddedTextLemmas.{length-padded_text_none}
use Rattle.ti_pad.proofs.length.padded_len.Goals as goal

pub returns : goal.returns
returns c = length-padded_text_none c.stretches.rest.now c.args.padding.now _ _ (search rules) c.stretches.invariant.counted
