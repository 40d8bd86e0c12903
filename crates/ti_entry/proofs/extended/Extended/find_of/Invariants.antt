use Rattle.std.proofs.Common.{take}
use Rattle.ti_entry.specs.Finding.{Lacks, names_of}
use Rattle.ti_entry.proofs.extended.Extended.find_of.Given as goal

abbrev pub invariant-loop-i : goal.invariant-loop-i
invariant-loop-i l = Lacks (take l.i (names_of l.self l.fn.kind)) l.name
