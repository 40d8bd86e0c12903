use Rattle.std.proofs.Common.{◌∙◌}
use Rattle.ti_rules.specs.Controls.{AreUnknownControls}
use Rattle.ti_rules.specs.inner.Held.{unknown_held}
use Rattle.ti_rules.proofs.ReportsLemmas.{all_end, all_step, no_unknown}
use Rattle.ti_rules.proofs.report.Report.push_unknown_controls.Goals as goal

pub texts-preserved : goal.texts-preserved
texts-preserved g c =
    let (kept, told) = c.in_ok-push_unknown.ensures in
    record {
      kept = kept ∙ c.texts.invariant.kept;
      goes = all_step (AreUnknownControls c.args.terminal.now.untrusted) unknown_held c.args.texts.now c.texts.text-index no_unknown c.args.self.now.remarks c.texts.self.remarks c.push_unknown.new.self.remarks
          c.texts-test.true c.texts.invariant.goes told;
    }

pub returns : goal.returns
returns g c = (
  c.texts.invariant.kept,
  all_end (AreUnknownControls c.args.terminal.now.untrusted) unknown_held c.args.texts.now c.texts.text-index c.args.self.now.remarks c.texts.self.remarks c.texts-test.false c.texts.invariant.goes,
)
