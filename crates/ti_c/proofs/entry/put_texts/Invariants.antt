use Rattle.ti_c.specs.Entries.{text_shown, text_held, StartsWith}
use Rattle.ti_c.proofs.StartsWithLemmas.{put_values}
use Rattle.ti_c.proofs.entry.put_texts.Given as goal

abbrev pub invariant-loop-i : goal.invariant-loop-i
invariant-loop-i l = StartsWith text_held l.initial.texts l.texts (put_values text_held text_shown l.initial.texts l.from l.part.texts l.i)
