use Rattle.std.proofs.Common.{ℕ, ◌+◌, ◌*◌, ◌%◌, ◌<◌, ◌≤◌}
use Rattle.ti_words.specs.Word.{unsigned_at}
use Rattle.ti_layout.proofs.greatest.greatest_word.Given as goal

abbrev pub invariant-loop-word : goal.invariant-loop-word
invariant-loop-word l = (k : ℕ) → k < l.word-index → (unsigned_at 2 l.bytes (l.from + 2 * k) + l.lift) % 65536 ≤ l.greatest
