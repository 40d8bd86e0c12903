use Rattle.std.proofs.Common.{◌∙◌, Bool, List, subst}
use Rattle.ti_rules.specs.Lines.{Adds, AreAll}
use Rattle.ti_rules.specs.Sequences.{IsSequenceOf}
use Rattle.ti_rules.specs.Subjects.{KnownText, known_texts}
use Rattle.ti_rules.specs.inner.Held.{text_held}
use Rattle.ti_rules.proofs.ReportsLemmas.{all_end, all_step, no_text}
use Rattle.ti_rules.proofs.report.Report.push_sequences.Goals as goal

pub texts-preserved : goal.texts-preserved
texts-preserved g c =
    let (kept, told) = c.in_ok-push_sequence_of.ensures in
    record {
      kept = kept ∙ c.texts.invariant.kept;
      goes = all_step (IsSequenceOf c.is_ansi-ansi.result) text_held c.texts-text-items.result.now c.texts.text-index no_text c.args.self.now.remarks c.texts.self.remarks c.push_sequence_of.new.self.remarks
          c.texts-test.true c.texts.invariant.goes told;
    }

pub returns : goal.returns
returns g c =
    let old = c.args.self.now in
    let last = c.texts.self in
    let Told : Bool → List KnownText → Type 0 = λ ansi texts. Adds (AreAll (IsSequenceOf ansi) texts) old.remarks last.remarks in
    let all = all_end (IsSequenceOf c.is_ansi-ansi.result) text_held c.texts-text-items.result.now c.texts.text-index old.remarks last.remarks c.texts-test.false c.texts.invariant.goes in
    (c.texts.invariant.kept, subst (λ ansi. Told ansi (known_texts old.on.entry)) c.is_ansi-ansi.ensures (subst (Told c.is_ansi-ansi.result) c.texts-text-items.ensures all))
