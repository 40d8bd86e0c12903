use Rattle.std.proofs.Common.{eqb, arith, w8}
use Rattle.std.specs.Simd.Lanes.{chunk}
use Rattle.std.proofs.lemmas.Simd.{length-chunk, bitmask_splat}
use Rattle.ti_layout.proofs.UntilNulLemmas.{first_marked}
use Rattle.ti_layout.proofs.string_table.first_nul.Goals as goal

pub returns : goal.returns
returns c =
    let v = chunk 0 16 c.args.bytes.now in
    let long = length-chunk 0 16 c.args.bytes.now c.requires in
    let nuls = bitmask_splat w8 eqb v 16 0 long (omega arith) in
    let first = first_marked 16 v _ long (omega arith) nuls (omega arith) in
    record { near = first.1; first = first.0 }
