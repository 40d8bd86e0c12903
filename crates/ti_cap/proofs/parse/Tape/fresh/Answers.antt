use Rattle.ti_cap.proofs.IsTapeLemmas.{tape_start}
use Rattle.ti_cap.proofs.parse.Tape.fresh.Goals as goal

pub invariant_of-result : goal.invariant_of-result
invariant_of-result c = tape_start c.args.bytes.now c.args.maxima c.requires
