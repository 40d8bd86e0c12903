use Rattle.std.proofs.Common.{arith}
use Rattle.std.proofs.lemmas.Grind.{common_steps}
use Rattle.ti_escape.proofs.PutLemmas.{kept-later}
use Rattle.ti_escape.proofs.slice.put_notation.Goals as goal

pub returns-clause-rest : goal.returns-clause-rest
returns-clause-rest c =
    kept-later _ _ _ _ c.put_span-end.result _
    (kept-later _ _ _ _ c.put_stretch-start.result _ c.put_stretch-start.ensures.rest c.put_span-end.ensures.end c.put_span-end.ensures.rest)
    c.put_stretch.ensures.end c.put_stretch.ensures.rest

pub put_stretch-start-requires : goal.put_stretch-start-requires
put_stretch-start-requires c = grind (arith, common_steps)

pub put_span-end-requires : goal.put_span-end-requires
put_span-end-requires c = grind (arith, common_steps)

pub put_stretch-requires : goal.put_stretch-requires
put_stretch-requires c = grind (arith, common_steps)

pub returns-clause-len : goal.returns-clause-len
returns-clause-len c = grind (arith, common_steps)
