-- The name of each fault of a capability.
use Rattle.std.specs.Prelude.{ℕ, List, codes}
use Rattle.ti_cap.specs.declared.language.CapFault.{CapFault}
use Rattle.ti_cap.specs.declared.language.CapFault.TheVariants.{TooLong, CutShort, UnknownEscape, BadParameter, BadVariable, BadConstant, BadFormat, StrayThen, StrayElse, StrayEnd, NoThen, NestTooDeep, StackTooDeep}

abbrev pub cap_fault_word : CapFault → List ℕ
cap_fault_word TooLong = codes "TooLong"
cap_fault_word CutShort = codes "CutShort"
cap_fault_word UnknownEscape = codes "UnknownEscape"
cap_fault_word BadParameter = codes "BadParameter"
cap_fault_word BadVariable = codes "BadVariable"
cap_fault_word BadConstant = codes "BadConstant"
cap_fault_word BadFormat = codes "BadFormat"
cap_fault_word StrayThen = codes "StrayThen"
cap_fault_word StrayElse = codes "StrayElse"
cap_fault_word StrayEnd = codes "StrayEnd"
cap_fault_word NoThen = codes "NoThen"
cap_fault_word NestTooDeep = codes "NestTooDeep"
cap_fault_word StackTooDeep = codes "StackTooDeep"
