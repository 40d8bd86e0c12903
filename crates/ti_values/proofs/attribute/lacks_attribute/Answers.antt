use Rattle.std.proofs.Common.{◌≡◌, ◌∙◌, ◌^◌, ap, subst, sym, IsTrue}
use Rattle.ti_values.specs.Findings.{sent_at}
use Rattle.ti_values.specs.Renditions.{lacks_new, parameters}
use Rattle.ti_values.specs.Sent.{texts_of}
use Rattle.ti_values.specs.inner.Rows.{slices_of}
use Rattle.ti_values.proofs.attribute.lacks_attribute.Goals as goal

pub returns : goal.returns
returns g c =
    let all = texts_of c.args.sent.now in
    let old : slices_of c.as_slice.result.now ≡ parameters (sent_at all 0) = ap slices_of c.as_slice.ensures.value ∙ c.requires.old in
    let mine : slices_of c.as_slice-2.result.now ≡ parameters (sent_at all c.args.set) = ap slices_of c.as_slice-2.ensures.value ∙ c.requires.mine in
    let theirs : slices_of c.as_slice-3.result.now ≡ parameters (sent_at all (2 ^ c.args.attribute)) =
    ap slices_of c.as_slice-3.ensures.value ∙ c.in_ok-theirs.ensures ∙ ap parameters c.sent_at.ensures.exact ∙ ap (λ k. parameters (sent_at all k)) c.alone.ensures in
    let is = c.lacks_new.ensures
    ∙ ap (λ x. lacks_new x (slices_of c.as_slice-2.result.now) (slices_of c.as_slice-3.result.now)) old
    ∙ ap (λ x. lacks_new (parameters (sent_at all 0)) x (slices_of c.as_slice-3.result.now)) mine
    ∙ ap (λ x. lacks_new (parameters (sent_at all 0)) (parameters (sent_at all c.args.set)) x) theirs in
    (λ yes. (c.has_attribute.ensures.0 c.if-not-has_attribute.false, subst IsTrue is yes), λ at. subst IsTrue (sym is) at.1)
