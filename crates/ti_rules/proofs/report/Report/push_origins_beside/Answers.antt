use Rattle.std.proofs.Common.{List, ℕ}
use Rattle.std.specs.Prelude.{codes}
use Rattle.ti_values.specs.declared.axes.Axes.{Axes}
use Rattle.ti_values.specs.declared.axes.Axes.TheVariants.{Both, Line, Column, Lines}
use Rattle.ti_rules.specs.Lines.{InTurn}
use Rattle.ti_rules.specs.Origins.{IsOriginReport}
use Rattle.ti_rules.specs.Remarks.{Remark}
use Rattle.ti_rules.specs.inner.Growing.{Examined}
use Rattle.ti_rules.specs.inner.Held.{motion_held}
use Rattle.ti_rules.proofs.TurnsLemmas.{then}
use Rattle.ti_rules.proofs.report.Report.push_origins_beside.Goals as goal

pub returns : goal.returns
returns g c =
    let Of : List ℕ × Axes → Examined → List Remark → Type 0 = λ row on. IsOriginReport on.entry (motion_held c.args.cup) row in
    let Home = Of (codes "home", Both) in
    let Vpa = Of (codes "vpa", Line) in
    let Hpa = Of (codes "hpa", Column) in
    let Csr = Of (codes "csr", Lines) in
    let home = c.push_origin.new.self in
    let vpa = c.push_origin-2.new.self in
    let hpa = c.push_origin-3.new.self in
    let last = c.push_origin-4.new.self in
    then Home (λ on. InTurn (Vpa on) (InTurn (Hpa on) (Csr on))) c.args.self.now home last c.in_ok-push_origin.ensures
    (then Vpa (λ on. InTurn (Hpa on) (Csr on)) home vpa last c.in_ok-push_origin-2.ensures
    (then Hpa Csr vpa hpa last c.in_ok-push_origin-3.ensures c.in_ok-push_origin-4.ensures))
