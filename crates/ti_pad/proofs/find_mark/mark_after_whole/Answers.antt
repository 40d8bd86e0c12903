use Rattle.std.proofs.Common.{◌∙◌, sym}
use Rattle.ti_pad.proofs.MarkAfterWholeLemmas.{mark_after_whole-some}
use Rattle.ti_pad.proofs.find_mark.mark_after_whole.Goals as goal

pub returns-in-Some-clause-mark : goal.returns-in-Some-clause-mark
returns-in-Some-clause-mark c = c.mark_after_number.ensures.mark ∙ mark_after_whole-some c.args.whole.now c.args.bytes.now c.in-Some.digits.now (sym c.in-Some.ensures.value)
