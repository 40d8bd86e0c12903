use Rattle.std.proofs.Common.{arith, refl}
use Rattle.ti_values.proofs.NegativeLemmas.{has_room}
use Rattle.ti_values.proofs.negative.prints_negative.Goals as goal

pub unreachable-requires : goal.unreachable-requires
unreachable-requires g c =
    let fault = (c.in-Err.ensures.faults c.in-Err._fault).0 refl in
    has_room c.args.capability.now c.args.value c.parameters-parameters.result _ c.bound-bound.result c.parameters-parameters.ensures.all
    c.bound-bound.ensures.tree c.bound-bound.ensures.exact (omega (arith, c.as_mut_slice.ensures.len, c.in_ok-room.ensures.len))
    c.in-Err._fault fault
