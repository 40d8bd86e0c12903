use Rattle.std.proofs.Common.{ℕ, List, inl, inr, refl, sym, ◌∙◌, ◌↔◌, subst}
use Rattle.ti_cap.specs.Capability.{HasDepth, HasNest, HasBound}
use Rattle.ti_cap.specs.Sources.{Has, IsNamed, IsTakenAsText}
use Rattle.ti_c.proofs.NumbersLemmas.{not_done}
use Rattle.ti_c.proofs.OneFaultLemmas.{one_refused, none_refused_as}
use Rattle.ti_c.proofs.capability.ti_check.Goals as goal

pub returns-in-Ok-clause-answer : goal.returns-in-Ok-clause-answer
returns-in-Ok-clause-answer c = inl refl

pub returns-in-Ok-clause-tree : goal.returns-in-Ok-clause-tree
returns-in-Ok-clause-tree c = λ _. c.in-Ok.ensures.tree

pub returns-in-Ok-clause-accepted : goal.returns-in-Ok-clause-accepted
returns-in-Ok-clause-accepted c = λ _. c.in-Ok.ensures.accepted

pub returns-in-Ok-clause-only : goal.returns-in-Ok-clause-only
returns-in-Ok-clause-only c = λ number place refused. absurd (none_refused_as c.args.capability.now number place c.in-Ok.ensures.accepted refused)

pub returns-in-Ok-clause-depth : goal.returns-in-Ok-clause-depth
returns-in-Ok-clause-depth c =
    let P : List ℕ → Type 0 = λ x. HasDepth x c.depth-limits.result in
    λ _. subst P c.in-Ok.ensures.value c.depth-limits.ensures.exact

pub returns-in-Ok-clause-nest : goal.returns-in-Ok-clause-nest
returns-in-Ok-clause-nest c =
    let P : List ℕ → Type 0 = λ x. HasNest x c.nest-limits.result in
    λ _. subst P c.in-Ok.ensures.value c.nest-limits.ensures.exact

pub returns-in-Ok-clause-bound : goal.returns-in-Ok-clause-bound
returns-in-Ok-clause-bound c =
    let P : List ℕ → Type 0 = λ x. HasBound x c.args.longest_text c.bound-limits.result in
    λ _. subst P c.in-Ok.ensures.value c.bound-limits.ensures.exact

pub returns-in-Err-clause-answer : goal.returns-in-Err-clause-answer
returns-in-Err-clause-answer c = inr (c.in-Err.refused.fault, c.capability_number.ensures, c.in-Err.ensures.refused)

pub returns-in-Err-clause-only : goal.returns-in-Err-clause-only
returns-in-Err-clause-only c = λ number place.
    one_refused c.args.capability.now _ _ number place (c.in-Err.refused.fault, c.capability_number.ensures, c.in-Err.ensures.refused)

pub returns-in-Err-clause-untold : goal.returns-in-Err-clause-untold
returns-in-Err-clause-untold c = λ e. absurd (not_done c.in-Err.refused.fault (sym c.capability_number.ensures ∙ e))

pub returns-in-Err-clause-accepted : goal.returns-in-Err-clause-accepted
returns-in-Err-clause-accepted c = λ e. absurd (not_done c.in-Err.refused.fault (sym c.capability_number.ensures ∙ e))

pub returns-in-Err-clause-tree : goal.returns-in-Err-clause-tree
returns-in-Err-clause-tree c = λ e. absurd (not_done c.in-Err.refused.fault (sym c.capability_number.ensures ∙ e))

pub returns-in-Err-clause-depth : goal.returns-in-Err-clause-depth
returns-in-Err-clause-depth c = λ e. absurd (not_done c.in-Err.refused.fault (sym c.capability_number.ensures ∙ e))

pub returns-in-Err-clause-nest : goal.returns-in-Err-clause-nest
returns-in-Err-clause-nest c = λ e. absurd (not_done c.in-Err.refused.fault (sym c.capability_number.ensures ∙ e))

pub returns-in-Err-clause-bound : goal.returns-in-Err-clause-bound
returns-in-Err-clause-bound c = λ e. absurd (not_done c.in-Err.refused.fault (sym c.capability_number.ensures ∙ e))

pub returns-in-Ok-clause-named : goal.returns-in-Ok-clause-named
returns-in-Ok-clause-named c =
    let P : List ℕ → Type 0 = λ x. (which : ℕ) → Has c.parameters-parameters.result.named which ↔ IsNamed x which in
    λ _. subst P c.in-Ok.ensures.value c.parameters-parameters.ensures.named

pub returns-in-Ok-clause-texts : goal.returns-in-Ok-clause-texts
returns-in-Ok-clause-texts c =
    let P : List ℕ → Type 0 = λ x. (which : ℕ) → Has c.parameters-parameters.result.texts which ↔ IsTakenAsText x which in
    λ _. subst P c.in-Ok.ensures.value c.parameters-parameters.ensures.texts
