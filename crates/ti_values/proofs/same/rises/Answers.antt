-- The next output is after all so far, since it is after the last one.
use Rattle.std.proofs.Common.{◌-◌, ◌≡◌, List, ℕ, arith, length, subst}
use Rattle.std.proofs.lemmas.List.{length-map}
use Rattle.ti_values.specs.Findings.{sent_at}
use Rattle.ti_values.specs.Sent.{texts_of}
use Rattle.ti_values.specs.inner.Rising.{IsBefore}
use Rattle.ti_values.proofs.SameLemmas.{before, none_same, rises_more}
use Rattle.ti_values.proofs.same.rises.Goals as goal

pub outputs-preserved : goal.outputs-preserved
outputs-preserved g c =
    let all = texts_of c.args.sent.now in
    let next = c.outputs.next in
    let step : IsBefore c.sent_at.result.now c.sent_at-in-outputs.result.now = before c.sent_at.result.now c.sent_at-in-outputs.result.now c.is_before.result c.if-not-is_before.false c.is_before.ensures in
    rises_more all (next - 1) next (omega (arith, c.outputs.auto)) c.outputs.invariant
    (subst (λ one. IsBefore one (sent_at all next)) c.sent_at.ensures.exact
    (subst (λ other. IsBefore c.sent_at.result.now other) c.sent_at-in-outputs.ensures.exact step))

pub returns : goal.returns
returns g c = none_same (texts_of c.args.sent.now) c.outputs.next (omega (arith, c.outputs-test.false, length-map c.args.sent.now (λ t. t.items))) c.outputs.invariant
