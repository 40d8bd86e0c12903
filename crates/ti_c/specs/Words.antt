-- The words of faults by the numbers that C knows them by.
use Rattle.std.specs.Prelude.{◌≡◌, ◌⊎◌, ℕ, List, [], ◌∷◌, Contains, codes}
use Rattle.ti_cap.specs.FaultNames.{cap_fault_word}
use Rattle.ti_cap.specs.declared.language.CapFault.{CapFault}
use Rattle.ti_layout.specs.Faults.{fault_word}
use Rattle.ti_layout.specs.declared.fault.Fault.{Fault}
use Rattle.ti_draft.specs.EncodeFaults.{encode_fault_word}
use Rattle.ti_draft.specs.declared.fault.EncodeFault.TheVariants as encode
use Rattle.ti_c.specs.Numbers.{bad_name, bad_padding, capability_number, does_not_fit, entry_number, no_variables, not_named, nul_in_text, number_out_of_range, out_too_small, room_too_small, text_too_long, too_many_or_long, too_many_parameters, too_much}

-- the number of a fault and its word
abbrev pub Row : Type 0
Row = ℕ × List ℕ

-- the faults of an expansion, of padding, of a search, of arrays and of writing, by their numbers
abbrev pub other_rows : List Row
other_rows =
    (too_many_parameters, codes "TooManyParameters") ∷ (text_too_long, codes "TextTooLong") ∷
    (out_too_small, codes "OutTooSmall") ∷ (does_not_fit, codes "DoesNotFit") ∷ (no_variables, codes "NoVariables") ∷
    (bad_padding, codes "BadPadding") ∷ (too_much, codes "TooMuch") ∷
    (not_named, codes "NotNamed") ∷ (room_too_small, codes "RoomTooSmall") ∷
    (bad_name, encode_fault_word encode.BadName) ∷ (nul_in_text, encode_fault_word encode.NulInText) ∷
    (number_out_of_range, encode_fault_word encode.NumberOutOfRange) ∷
    (too_many_or_long, encode_fault_word encode.TooManyOrLong) ∷ []

-- the number and the word are those of one fault
abbrev pub IsWord : ℕ → List ℕ → Type 0
IsWord number word =
    ((fault : Fault) × (number ≡ entry_number fault) × (word ≡ fault_word fault))
    ⊎ (((fault : CapFault) × (number ≡ capability_number fault) × (word ≡ cap_fault_word fault))
    ⊎ Contains other_rows (number, word))
