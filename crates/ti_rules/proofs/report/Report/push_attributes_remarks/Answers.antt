use Rattle.std.proofs.Common.{◌≡◌, List}
use Rattle.std.specs.List.{flat_map}
use Rattle.ti_values.specs.Attributes.{attributes}
use Rattle.ti_rules.specs.Lines.{InTurn}
use Rattle.ti_rules.specs.Remarks.{Remark}
use Rattle.ti_rules.specs.Values.{IsCombinationReport, IsShownReport, IsUnendedReport, is_ansi_entry, on_differing, on_ignored}
use Rattle.ti_rules.specs.inner.Growing.{Examined}
use Rattle.ti_rules.specs.inner.Held.{trial_held}
use Rattle.ti_rules.proofs.TurnsLemmas.{then, these}
use Rattle.ti_rules.proofs.report.Report.push_attributes_remarks.Goals as goal

pub returns : goal.returns
returns g c =
    let t = trial_held c.args.trial.now in
    let Ignored : Examined → List Remark → Type 0 = λ on all. all ≡ flat_map (on_ignored on.entry t) attributes in
    let Differing : Examined → List Remark → Type 0 = λ on all. all ≡ flat_map (on_differing on.entry t) attributes in
    let Unended : Examined → List Remark → Type 0 = λ on. IsUnendedReport (is_ansi_entry on.entry) t in
    let Last : Examined → List Remark → Type 0 = λ on. InTurn (IsShownReport t) (Unended on) in
    let More : Examined → List Remark → Type 0 = λ on. InTurn (IsCombinationReport t) (Last on) in
    let old = c.args.self.now in
    let ignored = c.push_all_ignored.new.self in
    let differing = c.push_all_differing.new.self in
    let combined = c.push_combination.new.self in
    let shown = c.push_shown_text.new.self in
    let last = c.push_unended.new.self in
    then Ignored (λ on. InTurn (Differing on) (More on)) old ignored last (these _ old ignored c.in_ok-push_all_ignored.ensures)
    (then Differing More ignored differing last (these _ ignored differing c.in_ok-push_all_differing.ensures)
    (then (λ on. IsCombinationReport t) Last differing combined last c.in_ok-push_combination.ensures
    (then (λ on. IsShownReport t) Unended combined shown last c.in_ok-push_shown_text.ensures c.in_ok-push_unended.ensures)))
