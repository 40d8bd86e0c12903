use Rattle.ti_entry.specs.Finding.{names_of}
use Rattle.ti_c.specs.Entries.{bytes_held, itself, StartsWith}
use Rattle.ti_c.proofs.StartsWithLemmas.{put_values}
use Rattle.ti_c.proofs.entry.put_names.Given as goal

abbrev pub invariant-loop-i : goal.invariant-loop-i
invariant-loop-i l = StartsWith bytes_held l.initial.names l.names (put_values bytes_held itself l.initial.names l.from (names_of l.extended l.kind) l.i)
