use Rattle.std.proofs.Common.{◌∙◌, ◌<◌, ℕ, List, [], arith, get_or, length, map, subst, sym}
use Rattle.std.proofs.lemmas.List.{get_or-map, length-map}
use Rattle.ti_values.specs.declared.range.Range.{Range}
use Rattle.ti_values.specs.declared.range.Range.TheVariants.{Numbers}
use Rattle.ti_values.specs.inner.Rows.{row_of}
use Rattle.ti_rules.specs.Lines.{Adds}
use Rattle.ti_rules.specs.inner.Growing.{Examined}
use Rattle.ti_rules.specs.Values.{IsNamedTriedReport}
use Rattle.ti_rules.proofs.ReportsLemmas.{goes_end, goes_next}
use Rattle.ti_rules.proofs.report.Report.push_rows.Goals as goal

pub rows-preserved : goal.rows-preserved
rows-preserved g c =
    let all = c.args.rows.now in
    let i = c.rows.name-index in
    let rows = map row_of all in
    let on = c.args.self.now.on in
    let old = c.rows.self.remarks in
    let new = c.push_named.new.self.remarks in
    let (kept, told) = c.in_ok-push_named.ensures in
    let P : List ℕ × Range → Type 0 = λ row. Adds (IsNamedTriedReport on.entry i row) old new in
    let Q : Examined → Type 0 = λ x. Adds (IsNamedTriedReport x.entry i (row_of (get_or all i (record { ref_ptr = (0, 0); now = [] }, Numbers 0 0)))) old new in
    let within : i < length rows = omega (arith, c.rows-test.true, length-map all row_of) in
    let is = get_or-map row_of all i (record { ref_ptr = (0, 0); now = [] }, Numbers 0 0) ([], Numbers 0 0) c.rows-test.true in
    record {
      kept = kept ∙ c.rows.invariant.kept;
      goes = goes_next (IsNamedTriedReport on.entry) rows i ([], Numbers 0 0) c.args.self.now.remarks old new within c.rows.invariant.goes (subst P (sym is) (subst Q c.rows.invariant.kept told));
    }

pub returns : goal.returns
returns g c =
    let rows = map row_of c.args.rows.now in
    let on = c.args.self.now.on in (
      c.rows.invariant.kept,
      goes_end (IsNamedTriedReport on.entry) rows c.rows.name-index c.args.self.now.remarks c.rows.self.remarks
          (omega (arith, c.rows-test.false, length-map c.args.rows.now row_of)) c.rows.invariant.goes,
    )
