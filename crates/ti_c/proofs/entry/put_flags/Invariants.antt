use Rattle.ti_c.specs.Entries.{flag_mark, itself, StartsWith}
use Rattle.ti_c.proofs.StartsWithLemmas.{put_values}
use Rattle.ti_c.proofs.entry.put_flags.Given as goal

abbrev pub invariant-loop-i : goal.invariant-loop-i
invariant-loop-i l = StartsWith itself l.initial.flags l.flags (put_values itself flag_mark l.initial.flags l.from l.part.flags l.i)
