use Rattle.std.proofs.Common.{◌≡◌, drop}
use Rattle.std.specs.List.{list_any}
use Rattle.ti_draft.specs.EncodeFaults.{is_out_of_range}
use Rattle.ti_draft.specs.Sources.{listed}
use Rattle.ti_draft.proofs.fault.any_out_of_range.Given as goal

abbrev pub invariant-loop-i : goal.invariant-loop-i
invariant-loop-i g l =
    let numbers = (listed (g.S.Source.entry l.source) l.part).numbers in
    list_any (is_out_of_range l.width) (drop l.i numbers) ≡ list_any (is_out_of_range l.width) numbers
