use Rattle.std.proofs.Common.{List, ℕ, subst, sym}
use Rattle.ti_lint.specs.Variables.{IsStored}
use Rattle.ti_rules.proofs.stored.stored_in.Goals as goal

pub returns-in-Ok : goal.returns-in-Ok
returns-in-Ok c = record {
  exact = λ which.
      let P : List ℕ → Type 0 = λ t. IsStored t which in
      let e = c.in-Ok.ensures in (
        λ h. (e.accepted, subst P e.value ((c.stored_by.ensures.exact which).0 h)),
        λ (f, s). (c.stored_by.ensures.exact which).1 (subst P (sym e.value) s),
      );
  only = c.stored_by.ensures.only;
}
