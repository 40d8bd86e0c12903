use Rattle.std.proofs.Common.{◌∙◌}
use Rattle.ti_words.specs.Texts.{text_value}
use Rattle.ti_rules.specs.Controls.{AreControlsOf}
use Rattle.ti_rules.specs.inner.Held.{text_held}
use Rattle.ti_rules.proofs.ReportsLemmas.{all_end, all_step, no_text}
use Rattle.ti_rules.proofs.report.Report.push_known_controls.Goals as goal

pub texts-preserved : goal.texts-preserved
texts-preserved g c =
    let (kept, told) = c.in_ok-push_controls_of.ensures in
    record {
      kept = kept ∙ c.texts.invariant.kept;
      goes = all_step (AreControlsOf c.args.terminal.now.untrusted (text_value c.args.terminal.now.end)) text_held c.args.texts.now c.texts.text-index no_text c.args.self.now.remarks c.texts.self.remarks c.push_controls_of.new.self.remarks
          c.texts-test.true c.texts.invariant.goes told;
    }

pub returns : goal.returns
returns g c = (
  c.texts.invariant.kept,
  all_end (AreControlsOf c.args.terminal.now.untrusted (text_value c.args.terminal.now.end)) text_held c.args.texts.now c.texts.text-index c.args.self.now.remarks c.texts.self.remarks c.texts-test.false c.texts.invariant.goes,
)
