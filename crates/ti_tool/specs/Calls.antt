-- What the calls of the program do to their reader and writer.
use Rattle.std.specs.Prelude.{◌≡◌, ◌<◌, ◌⊎◌, ◌+◌, ◌*◌, ℕ, Bool, List, IfOk, Option, Some, Result, Ok, Err, length, take}
use Rattle.std.specs.Io.KnownBytes.{Appends, Consumes, IsAtEnd, Keeps}
use Rattle.ti_base.specs.Limits.{most_capability_bytes}
use Rattle.ti_layout.specs.declared.fault.Refused.{Refused}
use Rattle.ti_layout.specs.Refusal.{failure}
use Rattle.ti_entry.specs.declared.source.ReadStop.{ReadStop}
use Rattle.ti_entry.specs.declared.source.ReadStop.TheVariants as stop
use Rattle.ti_line.specs.declared.request.Action.{Action}
use Rattle.ti_line.specs.declared.request.Action.TheVariants.{Capability, Difference, Entry, Source}
use Rattle.ti_trace.specs.declared.fault.TraceFault.{TraceFault}
use Rattle.ti_trace.specs.declared.fault.TraceFault.TheVariants as traces
use Rattle.ti_tool.specs.declared.fault.ToolFault.{ToolFault}
use Rattle.ti_tool.specs.declared.fault.ToolFault.TheVariants as fault

-- a fault that is found only once memory was taken, for an expansion or a draft
abbrev pub ComesAfterMemory : ToolFault → Type 0
ComesAfterMemory (fault.TooMuch need) = Unit {0}
ComesAfterMemory (fault.Encode unfit) = Unit {0}
ComesAfterMemory _ = ⊥

-- what is due needs memory: no fault is due but one that comes after it
abbrev pub NeedsMemory : (Result (List ℕ) ToolFault → Type 0) → Type 0
NeedsMemory due = (e : ToolFault) → due (Err e) → ComesAfterMemory e

-- the fault that is due, or out of memory if what is due needs memory
abbrev pub FailsAsDue : (Result (List ℕ) ToolFault → Type 0) → ToolFault → Type 0
FailsAsDue due e = ((e ≡ fault.Memory) × NeedsMemory due) ⊎ due (Err e)

-- What was written, if `due` says which result or fault is due. Nothing is written but a part of
-- the due result: all of it, or the first `gone` bytes if the writer failed. Out of memory is
-- answered only if what is due needs memory.
abbrev pub Wrote : (Result (List ℕ) ToolFault → Type 0) → Option (List ℕ) → Option (List ℕ)
    → Result (Unit {0}) ToolFault → Type 0
Wrote due before after (Ok u) = (out : List ℕ) × due (Ok out) × Appends before after out
Wrote due before after (Err (fault.Write gone)) =
    (out : List ℕ) × due (Ok out) × (gone < length out) × Appends before after (take gone out)
Wrote due before after (Err fault.Read) = Keeps before after
Wrote due before after (Err fault.Memory) = NeedsMemory due × Keeps before after
Wrote due before after (Err other) = due (Err other) × Keeps before after

-- the answer rests on all that there is to read, or on as much as is enough, unless reading failed
abbrev pub HasReadEnough : Type 0 → Option (List ℕ) → Result (Unit {0}) ToolFault → Type 0
HasReadEnough enough left (Err fault.Read) = Unit {0}
HasReadEnough enough left _ = enough ⊎ IsAtEnd left

-- the fault of a call whose reading stopped
abbrev pub stop_fault : ReadStop → ToolFault
stop_fault (stop.Refused refused) = fault.Entry refused
stop_fault stop.Io = fault.Read

-- the fault of a call whose trace is refused
abbrev pub trace_fault : TraceFault → ToolFault
trace_fault (traces.Cap refused) = fault.Cap refused
trace_fault (traces.TextTooLong which) = fault.TextTooLong which
trace_fault traces.Memory = fault.Memory

-- a failed write, which is the only fault that may leave something written
abbrev pub IsFailedWrite : ToolFault → Type 0
IsFailedWrite (fault.Write gone) = Unit {0}
IsFailedWrite _ = ⊥

-- a call read an input, and wrote what is due for it
pub record DidCall (due : List ℕ → Result (List ℕ) ToolFault → Type 0) (enough : List ℕ → Type 0)
    (left0 left1 held0 held1 : Option (List ℕ)) (answer : Result (Unit {0}) ToolFault)
    : Type 0 where
  pub input : List ℕ
  pub read : Consumes left0 left1 input
  pub ended : HasReadEnough (enough input) left1 answer
  pub wrote : Wrote (due input) held0 held1 answer

-- as many bytes as `cap` keeps
abbrev pub IsFull : List ℕ → Type 0
IsFull input = length input ≡ most_capability_bytes + 1

-- as many characters as `cap --source` keeps: those of the longest notation, a newline and one more
abbrev pub IsFullSource : List ℕ → Type 0
IsFullSource input = length input ≡ 4 * most_capability_bytes + 2

-- a check of an entry has failed on bytes that came, whatever would follow
abbrev pub HasFailed : List ℕ → Type 0
HasFailed input = (refused : Refused) × (failure input ≡ Some refused)

-- what is enough to read for a request
abbrev pub IsEnough : Action → List ℕ → Type 0
IsEnough (Capability c) = IsFull
IsEnough (Source c) = IsFullSource
IsEnough (Entry e) = HasFailed
IsEnough (Difference d) = λ input. ⊥

-- an answer without its value
abbrev pub without_value : {V : Type 0} → Result V ToolFault → Result (Unit {0}) ToolFault
without_value (Ok v) = Ok tt
without_value (Err e) = Err e

-- a call did its work, and answered whether texts are sound
abbrev pub DidCheck : (Bool → List ℕ → Result (List ℕ) ToolFault → Type 0) → (List ℕ → Type 0)
    → Option (List ℕ) → Option (List ℕ) → Option (List ℕ) → Option (List ℕ) → Result Bool ToolFault
    → Type 0
DidCheck due enough left0 left1 held0 held1 answer =
    (passed : Bool) × IfOk answer (λ s. s ≡ passed)
    × DidCall (due passed) enough left0 left1 held0 held1 (without_value answer)
