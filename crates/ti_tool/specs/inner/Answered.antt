-- How a request is answered before anything is written.
use Rattle.std.specs.Prelude.{◌≡◌, ℕ, Bool, true, List, Ok}
use Rattle.std.specs.Io.KnownBytes.{Consumes}
use Rattle.ti_entry.specs.Reading.{Reading, reading_of}
use Rattle.ti_line.specs.declared.request.Action.{Action}
use Rattle.ti_tool.specs.declared.fault.ToolFault.{ToolFault}
use Rattle.ti_tool.specs.declared.fault.ToolFault.TheVariants as fault
use Rattle.ti_tool.specs.Calls.{FailsAsDue}
use Rattle.ti_tool.specs.FileRuns.{Contents, Supply}
use Rattle.ti_tool.specs.Results.{IsAnswer}
use Rattle.ti_tool.specs.Streams.{Stream}

-- an output is that of what was read
abbrev pub HasOutput : Action → Supply → Bool → List ℕ → Type 0
HasOutput action (Contents bytes) passed out = IsAnswer action passed bytes (Ok out)
HasOutput action _ passed out = ⊥

-- a fault is that of what was read, or of reading
abbrev pub HasFault : Action → Supply → ToolFault → Type 0
HasFault action (Contents bytes) e = FailsAsDue (IsAnswer action true bytes) e
HasFault action _ e = e ≡ fault.Read

-- a reader was fed all that a source lost and nothing else
abbrev pub IsFed : Stream → Stream → Reading → Type 0
IsFed before after reading = (bytes : List ℕ) × Consumes before after bytes × (reading ≡ reading_of bytes)
