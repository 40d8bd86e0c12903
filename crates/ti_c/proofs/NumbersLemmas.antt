-- Numbers of faults.
use Rattle.std.proofs.Common.{◌≡◌, ◌≢◌, ◌<◌, ℕ, inl, inr, arith}
use Rattle.ti_cap.specs.declared.language.CapFault.{CapFault}
use Rattle.ti_cap.specs.declared.language.CapFault.TheVariants as capability
use Rattle.ti_layout.specs.declared.fault.Fault.{Fault}
use Rattle.ti_layout.specs.declared.fault.Fault.TheVariants as entry
use Rattle.ti_c.specs.Numbers.{done, room_too_small, entry_number, capability_number}
use Rattle.ti_c.specs.Entries.{IsRead}

-- no fault has the number that stands for none
pub not_done : (fault : CapFault) → capability_number fault ≢ done
not_done capability.TooLong e = omega arith
not_done capability.CutShort e = omega arith
not_done capability.UnknownEscape e = omega arith
not_done capability.BadParameter e = omega arith
not_done capability.BadVariable e = omega arith
not_done capability.BadConstant e = omega arith
not_done capability.BadFormat e = omega arith
not_done capability.StrayThen e = omega arith
not_done capability.StrayElse e = omega arith
not_done capability.StrayEnd e = omega arith
not_done capability.NoThen e = omega arith
not_done capability.NestTooDeep e = omega arith
not_done capability.StackTooDeep e = omega arith

entry_numbers : (fault : Fault) → (done < entry_number fault) × (entry_number fault < room_too_small)
entry_numbers entry.Truncated = (omega arith, omega arith)
entry_numbers entry.BadMagic = (omega arith, omega arith)
entry_numbers entry.BadHeader = (omega arith, omega arith)
entry_numbers entry.HeaderTooBig = (omega arith, omega arith)
entry_numbers entry.BadNames = (omega arith, omega arith)
entry_numbers entry.BadFlag = (omega arith, omega arith)
entry_numbers entry.BadPad = (omega arith, omega arith)
entry_numbers entry.BadNumber = (omega arith, omega arith)
entry_numbers entry.BadOffset = (omega arith, omega arith)
entry_numbers entry.Unterminated = (omega arith, omega arith)
entry_numbers entry.BadExtendedHeader = (omega arith, omega arith)
entry_numbers entry.ExtendedTooBig = (omega arith, omega arith)
entry_numbers entry.BadExtendedName = (omega arith, omega arith)
entry_numbers entry.Trailing = (omega arith, omega arith)

-- no fault of an entry has the number of a call that has read one
pub not_read : (fault : Fault) (answer : ℕ) → answer ≡ entry_number fault → ¬ IsRead answer
not_read fault answer is (inl e) = let n = entry_numbers fault in omega (arith, n.0)
not_read fault answer is (inr e) = let n = entry_numbers fault in omega (arith, n.1)
