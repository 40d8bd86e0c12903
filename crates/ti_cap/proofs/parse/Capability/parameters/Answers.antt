use Rattle.std.proofs.Common.{ℕ, List, ◌↔◌, ap, subst}
use Rattle.ti_cap.specs.Sources.{Has, IsNamed, IsTakenAsText}
use Rattle.ti_cap.proofs.parse.Capability.parameters.Goals as goal

pub returns-clause-named : goal.returns-clause-named
returns-clause-named c =
    let P : List ℕ → Type 0 = λ x. (which : ℕ) → Has c.parameters_of.result.named which ↔ IsNamed x which in
    subst P (ap (λ t. t.left) c.tape.ensures.start) c.parameters_of.ensures.named

pub returns-clause-texts : goal.returns-clause-texts
returns-clause-texts c =
    let P : List ℕ → Type 0 = λ x. (which : ℕ) → Has c.parameters_of.result.texts which ↔ IsTakenAsText x which in
    subst P (ap (λ t. t.left) c.tape.ensures.start) c.parameters_of.ensures.texts
