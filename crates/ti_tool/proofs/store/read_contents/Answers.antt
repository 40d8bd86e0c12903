use Rattle.std.proofs.Common.{arith, inl, inr, length-take}
use Rattle.ti_tool.proofs.ContentsLemmas.{ended, gives}
use Rattle.ti_tool.proofs.store.read_contents.Goals as goal

pub returns-in-Ok-eq0 : goal.returns-in-Ok-eq0
returns-in-Ok-eq0 g c =
    let end = ended _ _ _ _ _ c.read.new.buf c.in-Ok-eq0.field-0 c.read.result c.in-Ok-eq0.is c.in-Ok-eq0.field-0-test c.read.ensures.bytes (omega (arith, c.read.auto.buf, c.min.array_long, length-take c.min.result c.pieces.piece, c.min.ensures, c.pieces-test.true)) c.pieces.invariant.read in
    gives _ _ _ _ c.pieces.room end.0 c.pieces.invariant.count (inr end.1)

pub returns : goal.returns
returns g c = gives _ _ _ _ c.pieces.room c.pieces.invariant.read c.pieces.invariant.count (inl (omega (arith, c.pieces-test.false)))
