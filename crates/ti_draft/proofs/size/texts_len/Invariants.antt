use Rattle.std.proofs.Common.{◌≡◌, ◌+◌, ◌-◌, ◌^◌, ◌≤◌, length, drop}
use Rattle.ti_draft.specs.Canonical.{texts_table}
use Rattle.ti_draft.specs.Lengths.{capped_count}
use Rattle.ti_draft.specs.Sources.{listed}
use Rattle.ti_draft.proofs.size.texts_len.Given as goal

abbrev pub invariant-loop-i : goal.invariant-loop-i
invariant-loop-i g l =
    let texts = (listed (g.S.Source.entry l.source) l.part).texts in
    record {
      counted : capped_count (l.total + length (texts_table (drop l.i texts))) ≡ capped_count (length (texts_table texts));
      fits : l.total ≤ 2 ^ 64 - 1;
    }
