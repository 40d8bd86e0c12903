use Rattle.std.proofs.Common.{◌∙◌, ◌++◌, [], ◌∷◌, List, ℕ, ap, inl, inr, length, subst, sym}
use Rattle.ti_cap.specs.declared.language.Token.{Token}
use Rattle.ti_cap.specs.Capability.{Spot}
use Rattle.ti_lint.specs.Plain.{IsMeantToExpand}
use Rattle.ti_rules.proofs.MarkedLemmas.{Marking, Told, marking_end, marking_next, marking_start}
use Rattle.ti_rules.proofs.marks.places_to_expand.Goals.{then-is_meant_to_expand+in_ok-push, else-is_meant_to_expand}
use Rattle.ti_rules.proofs.marks.places_to_expand.Goals as goal

abbrev Holds : Spot → Token → Type 0
Holds spot token = IsMeantToExpand token

pub tokens-init : goal.tokens-init
tokens-init g c =
    let P : List ℕ → Type 0 = λ l. Marking Holds c.args.capability.now c.tape-tape.result l in
    let taken : Spot → ℕ = λ s. length s.taken in
    record {
      marking = subst P (sym c.new-places.ensures.items) (marking_start Holds c.args.capability.now c.tape-tape.result c.tape-tape.ensures.start);
      place = sym (ap taken c.tape-tape.ensures.start);
    }

pub tokens-preserved : goal.tokens-preserved
tokens-preserved g c =
    let old = c.tokens.places.items in
    let told : Told (Holds c.tokens.tape c.in-Some.token) (length c.tokens.tape.taken) old c.if-is_meant_to_expand.places.items =
    elim c.if-is_meant_to_expand.branch [
      | then-is_meant_to_expand+in_ok-push w ↦ inl (c.is_meant_to_expand.ensures.exact.0 w.if-is_meant_to_expand.true, ap (λ v. v.items) w.places-is ∙ w.in_ok-push.ensures.items ∙ ap (λ n. old ++ n ∷ []) c.tokens.invariant.place)
      | else-is_meant_to_expand w ↦ inr (λ h. let yes = c.is_meant_to_expand.ensures.exact.1 h in absurd (cc (yes, w.if-is_meant_to_expand.false)), ap (λ v. v.items) w.places-is)
    ] in
    record {
      marking = marking_next Holds c.args.capability.now c.tokens.tape c.token.new.self c.in-Some.token old c.if-is_meant_to_expand.places.items c.in-Some.ensures.some told c.tokens.invariant.marking;
      place = c.at-place.ensures.exact;
    }

pub returns : goal.returns
returns g c = marking_end Holds c.args.capability.now c.tokens.tape c.tokens.places.items c.in_default.ensures.none.1 c.tokens.invariant.marking
