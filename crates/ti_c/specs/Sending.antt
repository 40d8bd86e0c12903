-- What C sends: the output of a capability, padded, and why it is not sent.
use Rattle.std.specs.Prelude.{◌≡◌, ◌<◌, ◌≤◌, ◌⊎◌, ◌+◌, ℕ, ℤ, true, false, List, length}
use Rattle.ti_base.specs.Limits.{most_padded_bytes}
use Rattle.ti_cap.specs.Refusal.{IsFaultless}
use Rattle.ti_expand.specs.Expands.{ForMeaning, IsBytesFault}
use Rattle.ti_expand.specs.declared.fault.BytesFault.{BytesFault}
use Rattle.ti_expand.specs.declared.values.Value.{Value}
use Rattle.ti_c.specs.declared.padding.GivenPadding.{GivenPadding}
use Rattle.ti_c.specs.Given.{IsExpansionFault}
use Rattle.ti_c.specs.Numbers.{bad_padding, out_too_small, too_much}
use Rattle.ti_c.specs.Padding.{is_within_limits, padded_as_given, told_length}

-- why an output is not sent: the padded text is above the limit, or the room is too small for the output and the padded text, one
-- after the other; the number of this fault, and the length that the padded text would have, or the room that is needed
abbrev pub IsUnsent : List ℕ → List ℕ → ℕ → ℕ → ℕ → Type 0
IsUnsent output padded room number need =
    ((most_padded_bytes < length padded) × (number ≡ too_much) × (need ≡ told_length (length padded)))
    ⊎ ((length padded ≤ most_padded_bytes) × (room < length output + length padded)
    × (number ≡ out_too_small) × (need ≡ length output + length padded))

-- the capability and its expansion have no fault, and its output is not sent
pub record IsUnsentOutput (bytes : List ℕ) (variables : List ℤ) (values : List Value) (padding : GivenPadding) (room number need : ℕ) : Type 0 where
  pub accepted : IsFaultless bytes
  pub faultless : (fault : BytesFault) → ¬ IsBytesFault bytes values room fault
  pub unsent : ForMeaning bytes variables values (λ end. IsUnsent end.output (padded_as_given end.output padding) room number need)

-- the number is that of the first fault of a text that is sent, with its place: first the padding is above its limits, which has
-- no place, then there is one of the expansion, then one of the padded text
abbrev pub IsSendingFault : List ℕ → List ℤ → List Value → ℕ → GivenPadding → ℕ → ℕ → ℕ → Type 0
IsSendingFault bytes variables values given padding room number place =
    ((is_within_limits padding ≡ false) × (number ≡ bad_padding))
    ⊎ ((is_within_limits padding ≡ true)
    × (IsExpansionFault bytes values given room number place
    ⊎ ((given ≤ 9) × IsUnsentOutput bytes variables values padding room number place)))

-- P holds of the padded text of what the capability means
abbrev pub ForPadded : List ℕ → List ℤ → List Value → GivenPadding → (List ℕ → Type 0) → Type 0
ForPadded bytes variables values padding P =
    ForMeaning bytes variables values (λ end. P (padded_as_given end.output padding))
