use Rattle.std.proofs.Common.{◌≡◌, ◌+◌, ◌++◌, length, take, drop}
use Rattle.ti_draft.specs.Canonical.{texts_table}
use Rattle.ti_draft.specs.Sources.{listed}
use Rattle.ti_draft.proofs.put.put_texts.Given as goal

abbrev pub invariant-loop-i : goal.invariant-loop-i
invariant-loop-i g l =
    let texts = (listed (g.S.Source.entry l.source) l.part).texts in
    record {
      joined : take l.end l.out ++ texts_table (drop l.i texts) ≡ take l.at l.initial.out ++ texts_table texts;
      counted : l.end + length (texts_table (drop l.i texts)) ≡ l.at + length (texts_table texts);
    }
