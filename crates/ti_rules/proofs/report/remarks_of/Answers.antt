-- What is kept of harmless strings changes no report.
use Rattle.std.proofs.Common.{◌∙◌, ap, subst}
use Rattle.ti_rules.specs.Controls.{AreControlRemarks}
use Rattle.ti_rules.specs.Reported.{reported}
use Rattle.ti_rules.specs.inner.Growing.{Gains, Report}
use Rattle.ti_rules.proofs.ControlsLemmas.{is_report}
use Rattle.ti_rules.proofs.report.remarks_of.Goals as goal

pub returns : goal.returns
returns g c =
    let Controls : Report → Type 0 = λ old. Gains (AreControlRemarks old.on.options old.on.entry) old c.push_controls.new.self in
    record {
      remarks =
          is_report c.args.options c.args.bytes.now c.args.entry.now c.new-report.result c.push_all.new.self c.push_controls.new.self c.in_ok-remarks.remarks.items
          c.new-report.ensures c.in_ok-push_all.ensures (subst Controls c.exchange.ensures c.in_ok-push_controls.ensures)
          (c.in_ok-remarks.ensures ∙ ap (λ (r : Report). reported r.on.options.level r.remarks) c.exchange-2.ensures);
    }
