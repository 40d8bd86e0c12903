use Rattle.std.proofs.Common.{◌≡◌, ◌+◌, ◌++◌, length, take, drop}
use Rattle.ti_words.specs.Spelling.{flags_of}
use Rattle.ti_draft.specs.Sources.{listed}
use Rattle.ti_draft.proofs.put.put_flags.Given as goal

abbrev pub invariant-loop-i : goal.invariant-loop-i
invariant-loop-i g l =
    let flags = (listed (g.S.Source.entry l.source) l.part).flags in
    record {
      joined : take l.end l.out ++ flags_of (drop l.i flags) ≡ take l.at l.initial.out ++ flags_of flags;
      counted : l.end + length (drop l.i flags) ≡ l.at + length flags;
    }
