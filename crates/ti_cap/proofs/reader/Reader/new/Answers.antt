use Rattle.std.proofs.Common.{arith}
use Rattle.ti_cap.proofs.ReaderLemmas.{reading_start}
use Rattle.ti_cap.proofs.reader.Reader.new.Goals as goal

pub invariant_of-result : goal.invariant_of-result
invariant_of-result c =
    reading_start c.args.bytes.now _ _ (λ i. omega (arith, c.type_inv.bytes i)) c.requires.short (c.new.ensures.start _) (c.new.ensures.order 4)
