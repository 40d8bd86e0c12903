use Rattle.std.proofs.Common.{◌≡◌, drop}
use Rattle.std.specs.List.{list_any}
use Rattle.ti_draft.specs.EncodeFaults.{text_has_nul}
use Rattle.ti_draft.specs.Sources.{listed}
use Rattle.ti_draft.proofs.fault.any_text_has_nul.Given as goal

abbrev pub invariant-loop-i : goal.invariant-loop-i
invariant-loop-i g l =
    let texts = (listed (g.S.Source.entry l.source) l.part).texts in
    list_any text_has_nul (drop l.i texts) ≡ list_any text_has_nul texts
