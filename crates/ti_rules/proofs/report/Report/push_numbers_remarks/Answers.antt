use Rattle.std.proofs.Common.{List}
use Rattle.ti_rules.specs.Lines.{InTurn}
use Rattle.ti_rules.specs.Remarks.{Remark}
use Rattle.ti_rules.specs.Values.{IsEmptyReport, IsNegativeReport, IsSameReport, IsUnendedReport, is_ansi_entry}
use Rattle.ti_rules.specs.inner.Growing.{Examined}
use Rattle.ti_rules.specs.inner.Held.{trial_held}
use Rattle.ti_rules.proofs.TurnsLemmas.{then}
use Rattle.ti_rules.proofs.report.Report.push_numbers_remarks.Goals as goal

pub returns : goal.returns
returns g c =
    let t = trial_held c.args.trial.now in
    let Empty : Examined → List Remark → Type 0 = λ on. IsEmptyReport t in
    let Same : Examined → List Remark → Type 0 = λ on. IsSameReport t in
    let Negative : Examined → List Remark → Type 0 = λ on. IsNegativeReport t in
    let Unended : Examined → List Remark → Type 0 = λ on. IsUnendedReport (is_ansi_entry on.entry) t in
    let empty = c.push_empty.new.self in
    let same = c.push_same.new.self in
    let negative = c.push_negative.new.self in
    let last = c.push_unended.new.self in
    then Empty (λ on. InTurn (Same on) (InTurn (Negative on) (Unended on))) c.args.self.now empty last c.in_ok-push_empty.ensures
    (then Same (λ on. InTurn (Negative on) (Unended on)) empty same last c.in_ok-push_same.ensures
    (then Negative Unended same negative last c.in_ok-push_negative.ensures c.in_ok-push_unended.ensures))
