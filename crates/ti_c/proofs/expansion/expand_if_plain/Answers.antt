use Rattle.std.proofs.Common.{ℕ, List, Option, None, Some, take, subst, sym}
use Rattle.std.specs.Prelude.{IfSome}
use Rattle.ti_cap.specs.Refusal.{IsFaultless}
use Rattle.ti_expand.specs.Expands.{IsExpansion}
use Rattle.ti_c.specs.Given.{values_given}
use Rattle.ti_c.proofs.expansion.expand_if_plain.Goals as goal

if_some : {A : Type 0} (P Q : A → Type 0) (o : Option A) → ((x : A) → P x → Q x) → IfSome o P → IfSome o Q
if_some P Q None f h = h
if_some P Q (Some x) f h = f x h

pub expand_plain-requires-clause-accepted : goal.expand_plain-requires-clause-accepted
expand_plain-requires-clause-accepted c = subst IsFaultless (sym c.in_ok-plain.ensures.value) c.in_ok-plain.ensures.accepted

pub returns-clause-expansion : goal.returns-clause-expansion
returns-clause-expansion c =
    if_some _ _ c.expand_plain.result (λ run over.
    let values = values_given c.args.parameters.now in
    let P : List ℕ → Type 0 = λ bytes. IsExpansion bytes values c.args.variables.now c.args.variables.now (take run.written c.expand_plain.new.out) run in
    subst P c.in_ok-plain.ensures.value (over c.args.variables.now values)) c.expand_plain.ensures.expansion
