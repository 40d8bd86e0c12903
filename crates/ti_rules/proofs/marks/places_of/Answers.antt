use Rattle.std.proofs.Common.{◌∙◌, ap, inl, inr, rules}
use Rattle.ti_lint.specs.declared.token_finding.TokenFinding.TheVariants.{StackUnderflow}
use Rattle.ti_lint.specs.declared.placed_finding.PlacedFinding.{PlacedFinding}
use Rattle.ti_rules.proofs.PlacesOfLemmas.{going_end, going_next}
use Rattle.ti_rules.proofs.marks.places_of.Goals.{then-eq+in_ok-push, else-eq}
use Rattle.ti_rules.proofs.marks.places_of.Goals as goal

abbrev none : PlacedFinding
none = record { place = 0; finding = StackUnderflow }

pub founds-preserved : goal.founds-preserved
founds-preserved g c =
    let i = c.founds.found-index in
    going_next c.args.finding c.args.founds.now i none c.founds.places.items c.if-eq.places.items c.founds-test.true
    (elim c.if-eq.branch [
      | then-eq+in_ok-push w ↦ inl (search (rules, w.if-eq.true, c.eq.ensures), ap (λ v. v.items) w.places-is ∙ w.in_ok-push.ensures.items)
      | else-eq w ↦ inr (λ h. search (rules, h, w.if-eq.false, c.eq.ensures), ap (λ v. v.items) w.places-is)
    ])
    c.founds.invariant

pub returns : goal.returns
returns g c = going_end c.args.finding c.args.founds.now c.founds.found-index c.founds.places.items c.founds-test.false c.founds.invariant
