-- What is written is the remarks on the pairs so far.
use Rattle.std.proofs.Common.{◌≡◌, ◌++◌, map, take}
use Rattle.std.specs.List.{flat_map}
use Rattle.ti_lint.specs.Pairs.{names_of}
use Rattle.ti_rules.specs.Pairs.{pair_remarks}
use Rattle.ti_rules.proofs.report.Report.push_pairs_of.Given as goal

abbrev pub invariant-pairs : goal.invariant-pairs
invariant-pairs g l = record {
  kept : l.self.on ≡ l.initial.self.on;
  so_far : l.self.remarks ≡ l.initial.self.remarks ++ flat_map (pair_remarks l.finding l.fn.self.on.entry) (map names_of (take l.one-index l.pairs));
}
