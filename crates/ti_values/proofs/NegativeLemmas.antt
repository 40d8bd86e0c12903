-- Tokens that are left, and room for all.
use Rattle.std.proofs.Common.{◌≡◌, ◌≤◌, ℕ, List, [], ◌∷◌, ap, arith, refl, length, length-append, subst}
use Rattle.ti_base.specs.Limits.{most_values}
use Rattle.ti_cap.specs.declared.language.Token.{Token}
use Rattle.ti_cap.specs.Capability.{HasBound, IsWellFormed}
use Rattle.ti_cap.specs.Spelling.{Written}
use Rattle.ti_cap.proofs.WrittenLemmas.{spelled_long}
use Rattle.ti_expand.specs.declared.fault.ExpandFault.{ExpandFault}
use Rattle.ti_expand.specs.declared.fault.ExpandFault.TheVariants.{Memory, OutTooSmall, StackTooSmall, TextTooLong}
use Rattle.ti_expand.specs.declared.values.Value.{Value}
use Rattle.ti_expand.specs.Expands.{IsExpandFault, longest_text}
use Rattle.ti_expand.proofs.AreShortLemmas.{none_too_long}
use Rattle.ti_expand.proofs.CanRunLemmas.{depth_low, one_bound}
use Rattle.ti_values.specs.Ranges.{parameters_of}
use Rattle.ti_values.specs.declared.tried.Tried.{Tried}
use Rattle.ti_values.specs.declared.tried.Tried.TheVariants.{Attributes, Number, Two}

-- no bytes are no tokens
pub none_left : (ks : List Token) (bytes : List ℕ) → bytes ≡ [] → Written ks bytes → ks ≡ []
none_left [] bytes none writes = refl
none_left (k ∷ ks) bytes none (s, tail, spells, writes, is) =
    absurd (omega (arith, ap length none, ap length is, length-append s tail, spelled_long k s spells))

-- ---- room

no_text : (value : Tried) → longest_text (parameters_of value) ≡ 0
no_text (Number first) = refl
no_text (Two first second) = refl
no_text (Attributes set) = refl

-- a stack of the most values, and an output as long as the bound, are enough
pub has_room : (bytes : List ℕ) (value : Tried) (parameters : List Value) (room bound : ℕ) → parameters ≡ parameters_of value
    → IsWellFormed bytes → HasBound bytes 0 bound → bound ≤ room
    → (fault : ExpandFault) → ¬ IsExpandFault bytes parameters most_values room fault
has_room bytes value parameters room bound are formed bounded long fault is = fits fault (subst (λ (ps : List Value). IsExpandFault bytes ps most_values room fault) are is)
  where
    fits : (f : ExpandFault) → ¬ IsExpandFault bytes (parameters_of value) most_values room f
    fits (TextTooLong k) is = none_too_long (parameters_of value) k (omega (arith, no_text value)) is
    fits (StackTooSmall need) (short, needs, low) = absurd (omega (arith, low, depth_low bytes formed need most_values needs formed.heights))
    fits (OutTooSmall need) (stack, needs, low) =
        absurd (omega (arith, long, low, one_bound bytes 0 need bound (subst (λ (n : ℕ). HasBound bytes n need) (no_text value) needs) bounded))
    fits Memory is = is
