use Rattle.std.proofs.Common.{arith, ap, length}
use Rattle.ti_draft.proofs.LengthLemmas.{length_standard}
use Rattle.ti_draft.proofs.size.standard_len.Goals as goal

pub returns : goal.returns
returns g c =
    let v = g.S.Source.entry c.args.source.now in
    rw (length_standard v) (omega (arith, c.part_len.ensures, c.requires.table, c.flag_count.ensures, ap length c.names.ensures))
