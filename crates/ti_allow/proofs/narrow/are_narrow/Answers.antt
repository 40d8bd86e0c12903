use Rattle.ti_allow.proofs.NarrowLemmas.{narrow_more, narrow_nowhere, narrow_to_end}
use Rattle.ti_allow.proofs.narrow.are_narrow.Goals as goal

pub returns : goal.returns
returns c = narrow_to_end c.args.tape.now c.tokens.tape c.tokens.invariant c.in_default.ensures.none.1
