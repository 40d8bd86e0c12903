-- The remarks so far are there under the name.
use Rattle.std.proofs.Common.{◌≡◌, ◌++◌, map, take}
use Rattle.ti_rules.specs.Remarks.{with_name}
use Rattle.ti_rules.proofs.text_remarks.TextRemarks.push_with_name.Given as goal

abbrev pub invariant-remarks : goal.invariant-remarks
invariant-remarks g l = record {
  kept : l.report.on ≡ l.initial.report.on;
  so_far : l.report.remarks ≡ l.initial.report.remarks ++ map (with_name l.subject.name.now l.subject.text.now) (take l.remark-index l.self);
}
