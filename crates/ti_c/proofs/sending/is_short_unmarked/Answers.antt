use Rattle.std.proofs.Common.{eqb, pow_pos, arith, w8}
use Rattle.std.proofs.lemmas.Simd.{length-chunk, bitmask_splat}
use Rattle.std.specs.Simd.Lanes.{chunk}
use Rattle.memchr.proofs.lemmas.BitLemmas.{shl_one}
use Rattle.ti_c.proofs.SendingLemmas.{unmarked_by_mask}
use Rattle.ti_c.proofs.sending.is_short_unmarked.Goals as goal

pub overflow_sub-result : goal.overflow_sub-result
overflow_sub-result c = omega (arith, shl_one c.args.written (omega arith), pow_pos c.args.written)

pub returns : goal.returns
returns c =
    let room = c.args.out.now in
    let dollars = bitmask_splat w8 eqb (chunk 0 16 room) 16 36 (length-chunk 0 16 room c.requires.room) (omega arith) in
    unmarked_by_mask room 16 c.args.written _ c.requires.room (omega arith) c.requires.short dollars
