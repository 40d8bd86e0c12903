-- The names of faults.
use Rattle.std.specs.Prelude.{ℕ, List, codes}
use Rattle.ti_layout.specs.declared.fault.Fault.{Fault}
use Rattle.ti_layout.specs.declared.fault.Fault.TheVariants as faults

abbrev pub fault_word : Fault → List ℕ
fault_word faults.Truncated = codes "Truncated"
fault_word faults.BadMagic = codes "BadMagic"
fault_word faults.BadHeader = codes "BadHeader"
fault_word faults.HeaderTooBig = codes "HeaderTooBig"
fault_word faults.BadNames = codes "BadNames"
fault_word faults.BadFlag = codes "BadFlag"
fault_word faults.BadPad = codes "BadPad"
fault_word faults.BadNumber = codes "BadNumber"
fault_word faults.BadOffset = codes "BadOffset"
fault_word faults.Unterminated = codes "Unterminated"
fault_word faults.BadExtendedHeader = codes "BadExtendedHeader"
fault_word faults.ExtendedTooBig = codes "ExtendedTooBig"
fault_word faults.BadExtendedName = codes "BadExtendedName"
fault_word faults.Trailing = codes "Trailing"
