use Rattle.std.proofs.Common.{inl, inr, subst, sym}
use Rattle.std.specs.Prelude.{OnOk}
use Rattle.ti_values.specs.declared.range.Range.{Range}
use Rattle.ti_rules.specs.inner.Growing.{Gains}
use Rattle.ti_rules.specs.Values.{IsNumbersReport, IsRangeReport, is_ansi_entry}
use Rattle.ti_rules.proofs.report.Report.push_values_of.Goals as goal

pub returns-in-Numbers : goal.returns-in-Numbers
returns-in-Numbers g c =
    let text = c.args.text.now in
    let s = text.subject in
    let P : Range → Type 0 = λ range. OnOk c.push_of_numbers.result (Gains (IsRangeReport c.args.self.now.on.entry s.name.now s.text.now range) c.args.self.now c.push_of_numbers.new.self) in
    let Q : Range → Type 0 = λ range. OnOk c.push_of_numbers.result (Gains (IsNumbersReport (is_ansi_entry c.args.self.now.on.entry) s.name.now s.text.now range) c.args.self.now c.push_of_numbers.new.self) in
    let told = c.push_of_numbers.ensures in
    elim c.in-Numbers.is [
      | inl (from, end, is) ↦ subst P (sym is) (subst Q is told)
      | inr more ↦ elim more [
        | inl (lines, columns, is) ↦ subst P (sym is) (subst Q is told)
        | inr (lines, is) ↦ subst P (sym is) (subst Q is told)
      ]
    ]
