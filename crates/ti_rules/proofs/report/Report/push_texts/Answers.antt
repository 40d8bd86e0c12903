use Rattle.std.proofs.Common.{◌∙◌, List, get_or, subst}
use Rattle.ti_rules.specs.declared.usage.Usage.{Usage}
use Rattle.ti_rules.specs.Lines.{Adds, AreAll}
use Rattle.ti_rules.specs.Remarks.{Remark}
use Rattle.ti_rules.specs.Subjects.{KnownText}
use Rattle.ti_rules.specs.Reports.{AreStored, IsTextReport, IsUseReport}
use Rattle.ti_rules.specs.inner.Held.{text_held}
use Rattle.ti_rules.proofs.ReportsLemmas.{all_end, all_step, no_text}
use Rattle.ti_rules.proofs.report.Report.push_texts.Goals as goal

pub texts-preserved : goal.texts-preserved
texts-preserved g c =
    let texts = c.texts-texts.result.now in
    let i = c.texts.text-index in
    let s = (get_or texts i no_text).subject in
    let (kept, told) = c.in_ok-push_text.ensures in
    let P : Usage → Type 0 = λ usage. Adds (IsUseReport usage s.name.now s.text.now) c.texts.self.remarks c.push_text.new.self.remarks in
    record {
      kept = kept ∙ c.texts.invariant.kept;
      goes =
          all_step (IsTextReport c.stored_by_texts-stored.result) text_held texts i no_text c.args.self.now.remarks c.texts.self.remarks c.push_text.new.self.remarks
          c.texts-test.true c.texts.invariant.goes (subst P c.of-usage.ensures told);
    }

pub returns : goal.returns
returns g c =
    let stored = c.stored_by_texts-stored.result in
    let texts = c.texts-texts.result.now in
    let Are : List KnownText → List Remark → Type 0 = λ all remarks. AreStored all stored × AreAll (IsTextReport stored) all remarks in
    let (remarks, are, is) = all_end (IsTextReport stored) text_held texts c.texts.text-index c.args.self.now.remarks c.texts.self.remarks c.texts-test.false c.texts.invariant.goes in
    let (as_stored, on_all) = subst (λ all. Are all remarks) c.texts-texts.ensures (c.stored_by_texts-stored.ensures, are) in
    (c.texts.invariant.kept, (remarks, (stored, as_stored, on_all), is))
