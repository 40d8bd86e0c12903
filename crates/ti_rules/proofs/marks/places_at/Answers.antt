use Rattle.std.proofs.Common.{◌∙◌, ap, arith, inl, inr}
use Rattle.ti_rules.specs.Marks.{IsSought}
use Rattle.ti_rules.proofs.PlacesLemmas.{none_after, placing_end, placing_next}
use Rattle.ti_rules.proofs.marks.places_at.Goals.{then-stands_at+in_ok-push, else-stands_at}
use Rattle.ti_rules.proofs.marks.places_at.Goals as goal

pub places-preserved : goal.places-preserved
places-preserved g c =
    placing_next (IsSought c.args.text.now c.args.sought) c.places.place c.places.places.items c.if-stands_at.places.items
    (elim c.if-stands_at.branch [
      | then-stands_at+in_ok-push w ↦ inl (c.stands_at.ensures.exact.0 w.if-stands_at.true, ap (λ v. v.items) w.places-is ∙ w.in_ok-push.ensures.items)
      | else-stands_at w ↦ inr (λ h. let yes = c.stands_at.ensures.exact.1 h in absurd (cc (yes, w.if-stands_at.false)), ap (λ v. v.items) w.places-is)
    ])
    c.places.invariant

pub returns : goal.returns
returns g c =
    placing_end (IsSought c.args.text.now c.args.sought) c.places.place c.places.places.items
    (λ other low. none_after c.args.text.now c.args.sought other (omega (arith, low, c.places-test.false))) c.places.invariant
