use Rattle.std.proofs.Common.{arith}
use Rattle.ti_expand.proofs.UnderwayLemmas.{passed_low}
use Rattle.ti_expand.proofs.pass.pass_over.Goals as goal

pub overflow_add-passed : goal.overflow_add-passed
overflow_add-passed c =
    let h = rw c.in-ToElse.is at c.requires.here in
    omega (arith, passed_low _ _ _ _ _ _ _ _ _ (c.pass_from.ensures.onward _ _ _ _ _ _ _ h))

pub overflow_add-passed-in-ToEnd : goal.overflow_add-passed-in-ToEnd
overflow_add-passed-in-ToEnd c =
    let h = rw c.in-ToEnd.is at c.requires.here in
    omega (arith, passed_low _ _ _ _ _ _ _ _ _ (c.pass_from-in-ToEnd.ensures.onward _ _ _ _ _ _ _ h))
