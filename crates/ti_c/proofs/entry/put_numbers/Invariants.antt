use Rattle.ti_words.specs.Marks.{word_of_number}
use Rattle.ti_c.specs.Entries.{itself, StartsWith}
use Rattle.ti_c.proofs.StartsWithLemmas.{put_values}
use Rattle.ti_c.proofs.entry.put_numbers.Given as goal

abbrev pub invariant-loop-i : goal.invariant-loop-i
invariant-loop-i l = StartsWith itself l.initial.numbers l.numbers (put_values itself word_of_number l.initial.numbers l.from l.part.numbers l.i)
