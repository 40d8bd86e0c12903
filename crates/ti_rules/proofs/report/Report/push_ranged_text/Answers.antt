use Rattle.std.proofs.Common.{List, ℕ, inl, inr, refl, subst, sym}
use Rattle.ti_values.specs.Sent.{IsShort}
use Rattle.ti_rules.specs.Remarks.{NoEvidence, on_values}
use Rattle.ti_rules.specs.declared.finding.Finding.TheVariants.{NotTried}
use Rattle.ti_rules.proofs.report.Report.push_ranged_text.Goals as goal

pub returns-then-not-is_short : goal.returns-then-not-is_short
returns-then-not-is_short g c =
    let s = c.args.text.now.subject in
    let e = c.in-Ok.ensures in
    let P : List ℕ → Type 0 = λ text. IsShort text in
    let (kept, is) = c.in_ok-push_on_values-in-Ok.ensures in (
      kept,
      (
        on_values s.name.now s.text.now NotTried NoEvidence,
        inr (e.accepted, inl (λ short. cc (c.is_short.ensures.exact.1 (subst P (sym e.value) short), c.if-not-is_short.true), refl)),
        is,
      ),
    )

pub returns-in_ok-push_values_of-in-Ok : goal.returns-in_ok-push_values_of-in-Ok
returns-in_ok-push_values_of-in-Ok g c =
    let e = c.in-Ok.ensures in
    let P : List ℕ → Type 0 = λ text. IsShort text in
    let (kept, (remarks, report, so)) = c.in_ok-push_values_of-in-Ok.ensures in
    (kept, (remarks, inr (e.accepted, inr (subst P e.value (c.is_short.ensures.exact.0 c.if-not-is_short.false), report)), so))
