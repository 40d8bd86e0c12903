use Rattle.std.proofs.Common.{◌≡◌, ◌+◌, ◌-◌, ◌∙◌, refl, ap, sym, subst, length, take, List, ◌++◌, ◌∷◌, [], arith}
use Rattle.std.specs.Prelude.{ℕ}
use Rattle.std.proofs.lemmas.List.{take_at}
use Rattle.ti_layout.specs.Refusal.{failure}
use Rattle.ti_layout.specs.Stages.{Stands, Waits}
use Rattle.ti_layout.proofs.StageStepLemmas.{stands_on}
use Rattle.ti_entry.proofs.IsReadingLemmas.{none_held, takes, takes_short, refusal_holds, refusal_fed}
use Rattle.ti_entry.proofs.reader.EntryReader.take.Goals as goal

-- ---- no room

pub refusal_when_full-refused-requires-clause-stands : goal.refusal_when_full-refused-requires-clause-stands
refusal_when_full-refused-requires-clause-stands c =
    subst (λ (k : List ℕ). Stands k c.self.inside.stage) (sym c.as_slice.ensures.value) (c.self.invariant.stands (none_held c.self.view_is c.requires))

pub refusal_when_full-refused-requires-clause-waits : goal.refusal_when_full-refused-requires-clause-waits
refusal_when_full-refused-requires-clause-waits c =
    subst (λ (k : List ℕ). Waits k c.self.inside.stage) (sym c.as_slice.ensures.value) (c.self.invariant.waits (none_held c.self.view_is c.requires))

pub returns-then-is_full-clause-fed : goal.returns-then-is_full-clause-fed
returns-then-is_full-clause-fed c =
    refusal_fed c.args.byte c.self.invariant c.self.view_is c.requires refl
    (ap (λ (k : List ℕ). failure (k ++ c.args.byte ∷ [])) (sym c.as_slice.ensures.value) ∙ c.refusal_when_full-refused.ensures c.args.byte [])

pub invariant_of-self : goal.invariant_of-self
invariant_of-self c = refusal_holds c.self.invariant refl

-- ---- a byte more

pub advance-requires : goal.advance-requires
advance-requires c =
    subst (λ (k : List ℕ). Stands k c.self.inside.stage) (sym (c.as_slice-3.ensures.value ∙ c.push.ensures.items))
    (stands_on c.self.inside.kept.items (c.args.byte ∷ []) c.self.inside.stage (c.self.invariant.stands (none_held c.self.view_is c.requires)))

pub bytes_awaited-requires : goal.bytes_awaited-requires
bytes_awaited-requires c =
    let stands = c.self.invariant.stands (none_held c.self.view_is c.requires) [] in
    record { within = stands.within; fits = stands.fits; extended_fits = stands.extended_fits }

-- ---- too few bytes for a check

pub invariant_of-self-then-as_slice-bytes_awaited : goal.invariant_of-self-then-as_slice-bytes_awaited
invariant_of-self-then-as_slice-bytes_awaited c =
    (takes_short (c.args.byte ∷ []) c.self.invariant c.self.view_is c.requires c.push.ensures.items c.as_slice-2.ensures.value c.as_slice-2.ensures.fits c.bytes_awaited.ensures.waits (omega arith)).holds

pub returns-then-as_slice-bytes_awaited-clause-fed : goal.returns-then-as_slice-bytes_awaited-clause-fed
returns-then-as_slice-bytes_awaited-clause-fed c =
    (takes_short (c.args.byte ∷ []) c.self.invariant c.self.view_is c.requires c.push.ensures.items c.as_slice-2.ensures.value c.as_slice-2.ensures.fits c.bytes_awaited.ensures.waits (omega arith)).fed

-- ---- a byte that completes one

-- what is left after the last byte is taken off
popped : (kept now old : List ℕ) (byte len : ℕ) → old ≡ kept ++ byte ∷ [] → len ≡ length kept + 1 → now ≡ take (len - 1) old → now ≡ kept
popped kept now old byte len a b e = e ∙ ap (take (len - 1)) a ∙ take_at kept (byte ∷ []) (len - 1) (omega arith)

pub invariant_of-self-in-Err : goal.invariant_of-self-in-Err
invariant_of-self-in-Err c = refusal_holds c.self.invariant (popped _ _ _ c.args.byte _ c.push.ensures.items c.push.ensures.len c.pop.ensures.rest)

pub returns-in-Err-clause-fed : goal.returns-in-Err-clause-fed
returns-in-Err-clause-fed c =
    refusal_fed c.args.byte c.self.invariant c.self.view_is c.requires (popped _ _ _ c.args.byte _ c.push.ensures.items c.push.ensures.len c.pop.ensures.rest)
    (ap failure (sym (c.as_slice-3.ensures.value ∙ c.push.ensures.items)) ∙ c.in-Err.ensures.failed)

pub invariant_of-self-in_default : goal.invariant_of-self-in_default
invariant_of-self-in_default c =
    (takes (c.args.byte ∷ []) c.self.view_is c.requires c.push.ensures.items c.as_slice-3.ensures.value c.as_slice-3.ensures.fits c.in_default.ensures.stands c.in_default.ensures.waits).holds

pub returns-clause-fed : goal.returns-clause-fed
returns-clause-fed c =
    (takes (c.args.byte ∷ []) c.self.view_is c.requires c.push.ensures.items c.as_slice-3.ensures.value c.as_slice-3.ensures.fits c.in_default.ensures.stands c.in_default.ensures.waits).fed
