use Rattle.std.proofs.Common.{◌<◌, List, ap, arith, get_or, length, subst}
use Rattle.ti_lint.specs.declared.token_finding.TokenFinding.{TokenFinding}
use Rattle.ti_lint.specs.declared.token_finding.TokenFinding.TheVariants.{StackUnderflow}
use Rattle.ti_rules.specs.Lines.{Adds}
use Rattle.ti_rules.specs.Texts.{IsFindingReport, all_findings}
use Rattle.ti_rules.proofs.ReportsLemmas.{goes_end, goes_next}
use Rattle.ti_rules.proofs.text_remarks.TextRemarks.push_founds.Goals as goal

pub findings-preserved : goal.findings-preserved
findings-preserved g c =
    let i = c.findings.finding-index in
    let same = c.all_findings-finding-items.ensures in
    let out = c.findings.self in
    let new = c.push_found.new.self in
    let L = IsFindingReport c.args.capability.now c.args.parameters c.args.founds.now in
    let Q : List TokenFinding → Type 0 = λ l. Adds (L i (get_or l i StackUnderflow)) out new in
    let within : i < length all_findings = omega (arith, c.findings-test.true, ap length same) in
    goes_next L all_findings i StackUnderflow c.args.self.now out new within c.findings.invariant (subst Q same c.in_ok-push_found.ensures)

pub returns : goal.returns
returns g c =
    goes_end (IsFindingReport c.args.capability.now c.args.parameters c.args.founds.now) all_findings c.findings.finding-index c.args.self.now c.findings.self
    (omega (arith, c.findings-test.false, ap length c.all_findings-finding-items.ensures)) c.findings.invariant
