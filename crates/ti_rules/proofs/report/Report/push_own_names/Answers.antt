use Rattle.std.proofs.Common.{◌∙◌, Bor, ℕ, List, []}
use Rattle.ti_rules.specs.NameBytes.{IsOwnNameReport}
use Rattle.ti_rules.proofs.ReportsLemmas.{all_end, all_step}
use Rattle.ti_rules.proofs.report.Report.push_own_names.Goals as goal

abbrev none : Bor (List ℕ)
none = record { ref_ptr = (0, 0); now = [] }

pub names-preserved : goal.names-preserved
names-preserved g c =
    let (kept, told) = c.in_ok-push_own_name.ensures in
    record {
      kept = kept ∙ c.names.invariant.kept;
      goes = all_step IsOwnNameReport (λ text. text.now) c.args.names.now c.names.name-index none c.args.self.now.remarks c.names.self.remarks c.push_own_name.new.self.remarks
          c.names-test.true c.names.invariant.goes told;
    }

pub returns : goal.returns
returns g c = (
  c.names.invariant.kept,
  all_end IsOwnNameReport (λ text. text.now) c.args.names.now c.names.name-index c.args.self.now.remarks c.names.self.remarks c.names-test.false c.names.invariant.goes,
)
