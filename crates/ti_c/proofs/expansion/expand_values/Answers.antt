use Rattle.std.proofs.Common.{◌≡◌, List, length, inl, inr, refl, sym, subst, take, arith}
use Rattle.ti_expand.specs.declared.fault.BytesFault.{BytesFault}
use Rattle.ti_expand.specs.declared.values.Value.{Value}
use Rattle.ti_expand.specs.Expands.{IsBytesFault, IsExpansion}
use Rattle.ti_c.specs.Given.{IsToldAs}
use Rattle.ti_c.proofs.OneFaultLemmas.{told_once}
use Rattle.ti_c.proofs.expansion.expand_values.Goals as goal

pub returns-in-Err-clause-answer : goal.returns-in-Err-clause-answer
returns-in-Err-clause-answer c =
    let P : List Value → Type 0 = λ v. IsBytesFault c.args.capability.now v (length c.args.out.now) c.in-Err.fault in
    inr (inr (omega arith, c.in-Err.fault, c.number_and_place-number.ensures, subst P c.put_values.ensures ((c.in-Err.ensures.faults _).0 refl)))

pub returns-in-Err-clause-only : goal.returns-in-Err-clause-only
returns-in-Err-clause-only c = λ number place due. elim due [
  | inl many ↦ absurd (omega (arith, many.0))
  | inr few ↦
      let P : List Value → Type 0 = λ v. IsBytesFault c.args.capability.now v (length c.args.out.now) few.1 in
      let is = (c.in-Err.ensures.faults few.1).1 (subst P (sym c.put_values.ensures) few.3) in
      let same : c.in-Err.fault ≡ few.1 = cc in
      let Q : BytesFault → Type 0 = λ f. IsToldAs f _ _ in
      told_once few.1 _ _ number place (subst Q same c.number_and_place-number.ensures) few.2
]

pub returns-in-Ok-clause-only : goal.returns-in-Ok-clause-only
returns-in-Ok-clause-only c = λ number place due. elim due [
  | inl many ↦ absurd (omega (arith, many.0))
  | inr few ↦
      let P : List Value → Type 0 = λ v. IsBytesFault c.args.capability.now v (length c.args.out.now) few.1 in
      let is = (c.in-Ok.ensures.faults few.1).1 (subst P (sym c.put_values.ensures) few.3) in
      absurd (cc)
]

pub returns-in-Ok-clause-faultless : goal.returns-in-Ok-clause-faultless
returns-in-Ok-clause-faultless c = λ done fault holds.
    let P : List Value → Type 0 = λ v. IsBytesFault c.args.capability.now v (length c.args.out.now) fault in
    let is = (c.in-Ok.ensures.faults fault).1 (subst P (sym c.put_values.ensures) holds) in
    absurd (cc)

pub returns-in-Ok-clause-expansion : goal.returns-in-Ok-clause-expansion
returns-in-Ok-clause-expansion c = λ done.
    let P : List Value → Type 0 = λ v. IsExpansion c.args.capability.now v c.args.variables.now c.expand_checked.new.vars (take c.in-Ok.counts.written c.expand_checked.new.out) c.in-Ok.counts in
    subst P c.put_values.ensures c.in-Ok.ensures.expansion
