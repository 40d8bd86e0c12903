use Rattle.std.proofs.Common.{List, ℕ, inr, subst}
use Rattle.ti_rules.specs.Lines.{Adds}
use Rattle.ti_rules.specs.Texts.{IsFindingsReport}
use Rattle.ti_rules.proofs.text_remarks.TextRemarks.push_capability.Goals as goal

pub returns-in_ok-push_findings-in-Ok : goal.returns-in_ok-push_findings-in-Ok
returns-in_ok-push_findings-in-Ok g c =
    let P : List ℕ → Type 0 = λ text. Adds (IsFindingsReport c.args.usage c.args.parameters text) c.args.self.now c.push_findings.new.self in
    let (remarks, are, is) = subst P c.in-Ok.ensures.value c.in_ok-push_findings-in-Ok.ensures in
    (remarks, inr (c.in-Ok.ensures.accepted, are), is)
