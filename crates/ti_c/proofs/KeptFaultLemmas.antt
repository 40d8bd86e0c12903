-- The faults of a compiled capability that is expanded over numbers.
use Rattle.std.proofs.Common.{◌≡◌, ◌≤◌, ◌<◌, ℕ, ℤ, true, List, [], ◌∷◌, Result, Err, inl, inr, refl, subst, sym, arith}
use Rattle.ti_base.specs.Limits.{most_values}
use Rattle.ti_cap.specs.Capability.{HasBound}
use Rattle.ti_expand.specs.Expands.{longest_text, HasStack, IsBytesFault, IsExpandFault}
use Rattle.ti_expand.specs.declared.fault.BytesFault.{BytesFault}
use Rattle.ti_expand.specs.declared.fault.BytesFault.TheVariants.{Failed}
use Rattle.ti_expand.specs.declared.fault.ExpandFault.{ExpandFault}
use Rattle.ti_expand.specs.declared.fault.ExpandFault.TheVariants.{TextTooLong, StackTooSmall, OutTooSmall, Memory}
use Rattle.ti_expand.specs.State.{values_of}
use Rattle.ti_expand.proofs.AreShortLemmas.{none_too_long}
use Rattle.ti_expand.proofs.CanRunLemmas.{one_depth, one_bound}
use Rattle.ti_expand.proofs.IsBytesFaultLemmas.{bytes_failed, never_bytes}
use Rattle.ti_kept.specs.declared.kept.Kept.{Kept}
use Rattle.ti_kept.specs.Kept.{IsKept}
use Rattle.ti_c.specs.declared.padding.GivenPadding.{GivenPadding}
use Rattle.ti_c.specs.Given.{IsExpansionFault, IsToldAs}
use Rattle.ti_c.specs.Numbers.{out_too_small}
use Rattle.ti_c.specs.Padding.{is_within_limits}
use Rattle.ti_c.specs.Sending.{IsSendingFault}
use Rattle.ti_c.proofs.OneFaultLemmas.{told_once}
use Rattle.ti_c.proofs.SendingLemmas.{within_limits}

no_text : (numbers : List ℤ) → longest_text (values_of numbers) ≡ 0
no_text [] = refl
no_text (n ∷ numbers) = omega (arith, no_text numbers)

same_fault : (f g : BytesFault) → ◌≡◌ {A = Result ℕ BytesFault} (Err f) (Err g) → f ≡ g
same_fault f g e = cc

module _ (kept : Kept) (k : IsKept kept) (numbers : List ℤ) (room given : ℕ) where
  bounded : HasBound kept.bytes.now (longest_text (values_of numbers)) kept.bound
  bounded = subst (λ (n : ℕ). HasBound kept.bytes.now n kept.bound) (sym (no_text numbers)) k.bound

  deep_enough : HasStack kept.bytes.now (values_of numbers) most_values
  deep_enough = record { texts = omega (arith, no_text numbers); depth = k.depth; deep = k.deep; room = omega (arith, k.low) }

  small : room < kept.bound → IsBytesFault kept.bytes.now (values_of numbers) room (Failed (OutTooSmall kept.bound))
  small less = (k.accepted, (deep_enough, bounded, less))

  -- there is one if the room is below the bound
  pub kept_small : given ≤ 9 → room < kept.bound → IsExpansionFault kept.bytes.now (values_of numbers) given room out_too_small kept.bound
  kept_small few less = inr (few, Failed (OutTooSmall kept.bound), (refl, refl), small less)

  -- and then no other
  only_kept_small : given ≤ 9 → room < kept.bound → (number place : ℕ) → IsExpansionFault kept.bytes.now (values_of numbers) given room number place
      → (out_too_small ≡ number) × (kept.bound ≡ place)
  only_kept_small few less number place (inl (many, is)) = absurd (omega (arith, many, few))
  only_kept_small few less number place (inr (low, fault, told, is)) =
      let same = same_fault (Failed (OutTooSmall kept.bound)) fault ((bytes_failed kept.bytes.now (values_of numbers) room {T = ℕ} (Failed (OutTooSmall kept.bound)) (small less) fault).1 is) in
      let told_small : IsToldAs (Failed (OutTooSmall kept.bound)) number place = subst (λ (f : BytesFault). IsToldAs f number place) (sym same) told in
      told_once (Failed (OutTooSmall kept.bound)) out_too_small kept.bound number place (refl, refl) told_small

  -- nor one of what is sent
  pub only_small_sent : given ≤ 9 → room < kept.bound → (before : List ℤ) (padding : GivenPadding) → is_within_limits padding ≡ true → (number place : ℕ)
      → IsSendingFault kept.bytes.now before (values_of numbers) given padding room number place → (out_too_small ≡ number) × (kept.bound ≡ place)
  only_small_sent few less before padding within number place due =
      elim (within_limits kept.bytes.now before (values_of numbers) given padding room number place within due) [
        | inl e ↦ only_kept_small few less number place e
        | inr u ↦ absurd (u.1.faultless (Failed (OutTooSmall kept.bound)) (small less))
      ]

  -- else there is none
  pub none_kept : kept.bound ≤ room → (f : BytesFault) → ¬ IsBytesFault kept.bytes.now (values_of numbers) room f
  none_kept enough = never_bytes kept.bytes.now (values_of numbers) room k.accepted never
    where
      never : (f : ExpandFault) → ¬ IsExpandFault kept.bytes.now (values_of numbers) most_values room f
      never (TextTooLong j) i = none_too_long (values_of numbers) j (omega (arith, no_text numbers)) i
      never (StackTooSmall n) i = omega (arith, one_depth kept.bytes.now n k.depth i.1 k.deep, i.2, k.low)
      never (OutTooSmall b) i = omega (arith, one_bound kept.bytes.now (longest_text (values_of numbers)) b kept.bound i.1 bounded, i.2, enough)
      never Memory i = i
