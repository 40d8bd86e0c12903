use Rattle.std.proofs.Common.{◌≡◌, ◌+◌, ◌≤◌, drop}
use Rattle.ti_draft.specs.Canonical.{present_count}
use Rattle.ti_draft.specs.Sources.{listed}
use Rattle.ti_draft.proofs.encoding.present_count.Given as goal

abbrev pub invariant-loop-i : goal.invariant-loop-i
invariant-loop-i g l =
    let texts = (listed (g.S.Source.entry l.source) l.part).texts in
    record {
      counted : l.count + present_count (drop l.i texts) ≡ present_count texts;
      few : l.count ≤ l.i;
    }
