-- What holds of the results of the calls, whatever they read.
use Rattle.std.specs.Prelude.{◌≡◌, ◌≢◌, List, ℕ, Bool, Some, Result, Ok}
use Rattle.ti_words.specs.declared.Width.TheVariants.{Legacy, Wide}
use Rattle.ti_words.specs.Value.{EntryValue}
use Rattle.ti_words.specs.Spelling.{Spells}
use Rattle.ti_draft.specs.Canonical.{canonical}
use Rattle.ti_line.specs.declared.request.Action.{Action}
use Rattle.ti_line.specs.declared.request.Action.TheVariants.{Capability, Difference, Entry, Source}
use Rattle.ti_line.specs.declared.request.CapabilityResult.{CapabilityResult}
use Rattle.ti_line.specs.declared.request.CapabilityResult.TheVariants as of_cap
use Rattle.ti_line.specs.declared.request.EntryAction.{EntryAction}
use Rattle.ti_line.specs.declared.request.EntryAction.TheVariants as of_entry
use Rattle.ti_tool.specs.declared.fault.ToolFault.{ToolFault}
use Rattle.ti_tool.specs.FileRuns.{IsOutcomeOfInput, Supply}
use Rattle.ti_tool.specs.Results.{Finds, IsAnswer, IsConverted}

-- if an entry of the legacy format is widened, and what is written narrowed again, its canonical
-- bytes come out
abbrev pub WideAndBack : Type 0
WideAndBack = (input wide back : List ℕ) (v : EntryValue) → Spells input v → v.width ≡ Legacy
    → IsConverted (Some Wide) input (Ok wide) → IsConverted (Some Legacy) wide (Ok back)
    → back ≡ canonical v

-- what strings make a terminal do is followed along all paths, which finds all and may find more: so a report is not one by what it
-- means, but for the same findings on that (`reports_are_one` of ti_rules); what documents of JSON and traces say is shown by rows; and
-- each other result is one
abbrev pub IsOneOf : EntryAction → Type 0
IsOneOf (of_entry.Lint options color) = ⊥
IsOneOf (of_entry.Json document) = ⊥
IsOneOf (of_entry.Trace t) = ⊥
IsOneOf action = Unit {0}

-- what a trace says is shown by rows
abbrev pub IsOneOutput : CapabilityResult → Type 0
IsOneOutput (of_cap.Cap output) = Unit {0}
IsOneOutput (of_cap.Trace form) = ⊥

abbrev pub IsOneFor : Action → Type 0
IsOneFor (Capability c) = IsOneOutput c.result
IsOneFor (Source c) = IsOneOutput c.result
IsOneFor (Entry e) = IsOneOf e
IsOneFor (Difference d) = Unit {0}

-- at most one result or fault is due for an action and the bytes that are read
abbrev pub HasOneAnswer : Type 0
HasOneAnswer = (action : Action) (input : List ℕ)
    (passed other_passed : Bool) (one other : Result (List ℕ) ToolFault)
    → IsOneFor action → IsAnswer action passed input one → IsAnswer action other_passed input other
    → one ≡ other

-- and something is wrong in what was read, or a flag is not set, or that is not so
abbrev pub HasOneVerdict : Type 0
HasOneVerdict = (action : Action) (input one other : List ℕ) (passed other_passed : Bool)
    → IsOneFor action → IsAnswer action passed input (Ok one) → IsAnswer action other_passed input (Ok other)
    → Finds action passed → Finds action other_passed → passed ≡ other_passed

-- what is read of standard input leads to one result and one status, if memory is not refused
abbrev pub InputHasOneResult : Type 0
InputHasOneResult = (has_advice : Bool) (action : Action) (supply : Supply) (out outs line lines : List ℕ) (status code : ℕ)
    → IsOneFor action → status ≢ 6 → code ≢ 6
    → IsOutcomeOfInput has_advice action supply out line status → IsOutcomeOfInput has_advice action supply outs lines code
    → (out ≡ outs) × (status ≡ code)
