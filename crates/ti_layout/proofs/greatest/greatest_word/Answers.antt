use Rattle.std.proofs.Common.{ℕ, ◌≡◌, ◌<◌, ◌+◌, ◌*◌, ◌-◌, [], get_or, ap, ◌∙◌, arith}
use Rattle.std.proofs.lemmas.Grind.{common_steps}
use Rattle.std.specs.Prelude.{slice_index}
use Rattle.ti_layout.proofs.ChunksLemmas.{chunk_byte}
use Rattle.ti_layout.proofs.greatest.greatest_word.Goals as goal

pub loop-word-preserved : goal.loop-word-preserved
loop-word-preserved c =
    let size = c.args.from + 2 * c.args.count - c.args.from in
    let i = c.loop-word.word-index in
    let at = c.args.from + 2 * i in
    let byte : (j place : ℕ) → j < 2 → at + j ≡ place → slice_index (get_or c.as_chunks.result.0.now i []) j ≡ slice_index c.args.bytes.now place
    = λ j place lt e. ap (λ words. get_or (get_or words i []) j 0) c.as_chunks.ensures.front ∙ chunk_byte 2 _ i j c.args.from size place c.args.bytes.now (omega arith) lt (omega arith) e in
    let low = byte 0 at (omega arith) (omega arith) in
    let high = byte 1 (at + 1) (omega arith) (omega arith) in
    grind (arith, common_steps)
