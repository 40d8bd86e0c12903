-- All numbers of faults with their words, as rows of a table.
use Rattle.std.specs.Borrow.{Bor}
use Rattle.std.specs.Prelude.{ℕ, List, [], ◌∷◌, ◌++◌, map}
use Rattle.ti_cap.specs.FaultNames.{cap_fault_word}
use Rattle.ti_cap.specs.declared.language.CapFault.{CapFault}
use Rattle.ti_cap.specs.declared.language.CapFault.TheVariants as capability
use Rattle.ti_layout.specs.Faults.{fault_word}
use Rattle.ti_layout.specs.declared.fault.Fault.{Fault}
use Rattle.ti_layout.specs.declared.fault.Fault.TheVariants as entry
use Rattle.ti_names.specs.AllNames.{front}
use Rattle.ti_c.specs.Numbers.{capability_number, entry_number}
use Rattle.ti_c.specs.Words.{Row, other_rows}

-- a row of the table in the code, without the NUL after the word
abbrev pub row_of : ℕ × Bor (List ℕ) → Row
row_of r = (r.0, front r.1.now)

-- a fault as a row of its number and its word
abbrev pub entry_row : Fault → Row
entry_row fault = (entry_number fault, fault_word fault)

abbrev pub capability_row : CapFault → Row
capability_row fault = (capability_number fault, cap_fault_word fault)

-- the faults of each kind
abbrev pub entry_faults : List Fault
entry_faults =
    entry.Truncated ∷ entry.BadMagic ∷ entry.BadHeader ∷ entry.HeaderTooBig ∷ entry.BadNames ∷ entry.BadFlag ∷
    entry.BadPad ∷ entry.BadNumber ∷ entry.BadOffset ∷ entry.Unterminated ∷ entry.BadExtendedHeader ∷
    entry.ExtendedTooBig ∷ entry.BadExtendedName ∷ entry.Trailing ∷ []

abbrev pub capability_faults : List CapFault
capability_faults =
    capability.TooLong ∷ capability.CutShort ∷ capability.UnknownEscape ∷ capability.BadParameter ∷
    capability.BadVariable ∷ capability.BadConstant ∷ capability.BadFormat ∷ capability.StrayThen ∷
    capability.StrayElse ∷ capability.StrayEnd ∷ capability.NoThen ∷ capability.NestTooDeep ∷
    capability.StackTooDeep ∷ []

-- the table of words
abbrev pub word_rows : List Row
word_rows = map entry_row entry_faults ++ (map capability_row capability_faults ++ other_rows)
