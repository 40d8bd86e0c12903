use Rattle.std.proofs.Common.{◌∙◌, map}
use Rattle.ti_values.specs.inner.Rows.{row_of}
use Rattle.ti_rules.specs.Crashes.{AreDivisionsOf}
use Rattle.ti_rules.specs.inner.Held.{text_held}
use Rattle.ti_rules.proofs.ReportsLemmas.{all_end, all_step, no_text}
use Rattle.ti_rules.proofs.report.Report.push_known_divisions.Goals as goal

pub texts-preserved : goal.texts-preserved
texts-preserved g c =
    let (kept, told) = c.in_ok-push_divisions_of.ensures in
    record {
      kept = kept ∙ c.texts.invariant.kept;
      goes = all_step (AreDivisionsOf (map row_of c.args.rows.now)) text_held c.args.texts.now c.texts.text-index no_text c.args.self.now.remarks c.texts.self.remarks c.push_divisions_of.new.self.remarks
          c.texts-test.true c.texts.invariant.goes told;
    }

pub returns : goal.returns
returns g c = (
  c.texts.invariant.kept,
  all_end (AreDivisionsOf (map row_of c.args.rows.now)) text_held c.args.texts.now c.texts.text-index c.args.self.now.remarks c.texts.self.remarks c.texts-test.false c.texts.invariant.goes,
)
