use Rattle.std.proofs.Common.{◌∙◌, ap}
use Rattle.ti_rules.specs.Controls.{is_ecma_entry}
use Rattle.ti_rules.proofs.ControlsLemmas.{folded_gains}
use Rattle.ti_rules.proofs.report.Report.push_controls.Goals as goal

pub returns : goal.returns
returns g c =
    folded_gains c.args.self.now c.push_controls_by.new.self c.fold.new.self c.untrusted.result c.is_ecma_entry.result c.count-first.result
    c.untrusted.ensures (c.is_ecma_entry.ensures ∙ ap is_ecma_entry c.entry-entry.ensures) c.count-first.ensures c.in_ok-push_controls_by.ensures
    c.in_ok-fold.ensures.kept c.in_ok-fold.ensures.folded
