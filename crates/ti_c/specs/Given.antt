-- What C hands to an expansion, and the number and the place that it returns.
use Rattle.std.specs.Prelude.{◌≡◌, ℕ, ◌<◌, ◌≤◌, ◌⊎◌, if◌then◌else◌, nat_eq, List, [], ◌∷◌, map, get_or, pos}
use Rattle.ti_cap.specs.declared.language.CapFault.{CapFault}
use Rattle.ti_cap.specs.Refusal.{IsRefusal}
use Rattle.ti_c.specs.declared.expansion.Parameter.{Parameter}
use Rattle.ti_c.specs.Numbers.{capability_number, out_too_small, text_too_long, too_many_parameters}
use Rattle.ti_expand.specs.Expands.{IsBytesFault}
use Rattle.ti_expand.specs.declared.fault.BytesFault.{BytesFault}
use Rattle.ti_expand.specs.declared.fault.BytesFault.TheVariants.{Refused, Failed}
use Rattle.ti_expand.specs.declared.fault.ExpandFault.TheVariants.{TextTooLong, OutTooSmall}
use Rattle.ti_expand.specs.declared.values.Value.{Value}
use Rattle.ti_expand.specs.declared.values.Value.TheVariants.{Num, Text}

-- the value that a parameter means
abbrev pub value_given : Parameter → Value
value_given p = if nat_eq p.is_text 0 then Num p.number else Text p.text

-- the value of the parameter at an index, 0 if it is missing
abbrev pub value_at : List Parameter → ℕ → Value
value_at parameters i = get_or (map value_given parameters) i (Num (pos 0))

-- the values of the nine parameters
abbrev pub values_given : List Parameter → List Value
values_given parameters = map (value_at parameters) (0 ∷ 1 ∷ 2 ∷ 3 ∷ 4 ∷ 5 ∷ 6 ∷ 7 ∷ 8 ∷ [])

-- the number is that of the fault of which the bytes are refused, at this place
abbrev pub IsRefusedAs : List ℕ → ℕ → ℕ → Type 0
IsRefusedAs bytes number place =
    (fault : CapFault) × (number ≡ capability_number fault)
    × IsRefusal bytes (record { fault = fault; place = place })

-- the number of a fault, and its place: that of a refusal, the parameter whose text is too long, counted from 1, or the bytes
-- that the output needs; of other faults C is never told
abbrev pub IsToldAs : BytesFault → ℕ → ℕ → Type 0
IsToldAs (Refused refused) number place = (number ≡ capability_number refused.fault) × (place ≡ refused.place)
IsToldAs (Failed (TextTooLong k)) number place = (number ≡ text_too_long) × (place ≡ k)
IsToldAs (Failed (OutTooSmall need)) number place = (number ≡ out_too_small) × (place ≡ need)
IsToldAs fault number place = ⊥

-- the number is that of the first fault of an expansion with so many parameters, with its place: first there are too many
-- parameters, which has no place, then the bytes are refused, then a capability with no fault has one of an expansion
abbrev pub IsExpansionFault : List ℕ → List Value → ℕ → ℕ → ℕ → ℕ → Type 0
IsExpansionFault bytes values given room number place =
    ((9 < given) × (number ≡ too_many_parameters))
    ⊎ ((given ≤ 9) × (fault : BytesFault) × IsToldAs fault number place × IsBytesFault bytes values room fault)
