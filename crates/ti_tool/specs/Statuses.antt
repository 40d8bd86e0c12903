-- The status that the program ends with.
use Rattle.std.specs.Prelude.{ℕ, Bool, true, false, Result, Ok, Err}
use Rattle.ti_tool.specs.declared.fault.ToolFault.{ToolFault}
use Rattle.ti_tool.specs.declared.fault.ToolFault.TheVariants as fault

-- the status of a call's answer: 1 if `check` found a text with a fault, `lint` something wrong, or `get` a
-- flag that is not set
abbrev pub status_for : Result Bool ToolFault → ℕ
status_for (Ok true) = 0
status_for (Ok false) = 1
status_for (Err (fault.Entry refused)) = 3
status_for (Err (fault.Encode unfit)) = 3
status_for (Err (fault.Cap refused)) = 4
status_for (Err (fault.Source refused)) = 4
status_for (Err fault.HasName) = 4
status_for (Err fault.NoSuchText) = 4
status_for (Err fault.NoSuchName) = 4
status_for (Err (fault.OnlyNumbers which)) = 4
status_for (Err (fault.TextTooLong k)) = 4
status_for (Err (fault.TooMuch need)) = 4
status_for (Err fault.Read) = 5
status_for (Err (fault.Write gone)) = 5
status_for (Err fault.Memory) = 6
