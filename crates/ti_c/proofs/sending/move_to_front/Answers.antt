use Rattle.std.proofs.Common.{◌∙◌, drop, take, ap, sym, arith}
use Rattle.std.proofs.lemmas.List.{take-take}
use Rattle.std.proofs.lemmas.Simd.{length-chunk, take_more_put_chunk}
use Rattle.std.specs.Simd.Lanes.{chunk, put_chunk}
use Rattle.ti_c.proofs.sending.move_to_front.Goals as goal

pub returns-then-out-from-ge16 : goal.returns-then-out-from-ge16
returns-then-out-from-ge16 c =
    let room = c.args.out.now in
    let count = c.args.count in
    let moved = chunk c.args.from 16 room in
    let long = length-chunk c.args.from 16 room (omega arith) in
    sym (take-take count 16 (put_chunk 0 room moved) (omega arith)) ∙ ap (take count) (take_more_put_chunk 0 room moved 16 (omega (arith, long)) (omega arith)) ∙ take-take count 16 (drop c.args.from room) (omega arith)
