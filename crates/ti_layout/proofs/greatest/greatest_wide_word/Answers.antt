use Rattle.std.proofs.Common.{ℕ, ◌≡◌, ◌<◌, ◌≤◌, ◌+◌, ◌*◌, ◌%◌, ◌-◌, [], get_or, inl, inr, ap, subst, ◌∙◌, arith}
use Rattle.std.proofs.lemmas.Bool.{cases_lt}
use Rattle.std.proofs.lemmas.Grind.{common_steps}
use Rattle.std.specs.Prelude.{slice_index}
use Rattle.ti_words.specs.Word.{unsigned_at}
use Rattle.ti_layout.proofs.ChunksLemmas.{chunk_byte}
use Rattle.ti_layout.proofs.greatest.greatest_wide_word.Goals as goal

pub loop-word-preserved : goal.loop-word-preserved
loop-word-preserved c =
    let size = c.args.from + 4 * c.args.count - c.args.from in
    let i = c.loop-word.word-index in
    let bytes = c.args.bytes.now in
    let at = c.args.from + 4 * i in
    let piece = get_or c.as_chunks.result.0.now i [] in
    let byte : (j place : ℕ) → j < 4 → at + j ≡ place → slice_index piece j ≡ slice_index bytes place
    = λ j place lt e. ap (λ words. get_or (get_or words i []) j 0) c.as_chunks.ensures.front ∙ chunk_byte 4 _ i j c.args.from size place bytes (omega arith) lt (omega arith) e in
    let first = byte 0 at (omega arith) (omega arith) in
    let second = byte 1 (at + 1) (omega arith) (omega arith) in
    let third = byte 2 (at + 1 + 1) (omega arith) (omega arith) in
    let fourth = byte 3 (at + 1 + 1 + 1) (omega arith) (omega arith) in
    let number : c.read_u32.result ≡ unsigned_at 4 bytes at = omega (arith, c.read_u32.ensures, first, second, third, fourth) in
    let kept : c.loop-word.greatest ≤ c.max-greatest.result = grind (arith, common_steps) in
    let more : (c.read_u32.result + 2) % 4294967296 ≤ c.max-greatest.result = grind (arith, common_steps) in
    let last : (unsigned_at 4 bytes at + 2) % 4294967296 ≤ c.max-greatest.result = subst (λ n. (n + 2) % 4294967296 ≤ c.max-greatest.result) number more in
    λ k lt. elim (cases_lt k i) [
      | inl before ↦ omega (arith, c.loop-word.invariant k before, kept)
      | inr from_i ↦ let same : i ≡ k = omega arith in subst (λ n. (unsigned_at 4 bytes (c.args.from + 4 * n) + 2) % 4294967296 ≤ c.max-greatest.result) same last
    ]
