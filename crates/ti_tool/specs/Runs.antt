-- What a run of the program does.
use Rattle.std.specs.Prelude.{◌≡◌, ◌⊎◌, ◌||◌, ℕ, Bool, true, false, List, [], ◌∷◌, Option, None, Err}
use Rattle.ti_line.specs.CommandLine.{Command, Reads, Row, files_of, has_summary}
use Rattle.ti_line.specs.Message.{message_text}
use Rattle.ti_line.specs.Requests.{Asks, HasText, IsReadAs, is_explain}
use Rattle.ti_line.specs.Requests.{Explains as GivesNone}
use Rattle.ti_line.specs.declared.destination.Destination.TheVariants as destinations
use Rattle.ti_line.specs.declared.no_request.NoRequest.{NoRequest}
use Rattle.ti_line.specs.declared.no_request.NoRequest.TheVariants as no_request
use Rattle.ti_line.specs.declared.request.Action.{Action}
use Rattle.ti_line.specs.declared.request.Action.TheVariants.{Difference, Entry, Source}
use Rattle.ti_tool.specs.declared.extras.Extras.{Extras}
use Rattle.ti_tool.specs.declared.fault.ToolFault.TheVariants as fault
use Rattle.ti_tool.specs.declared.terminals.Terminals.{Terminals}
use Rattle.ti_tool.specs.FaultLines.{IsRequestLine, fault_line}
use Rattle.ti_tool.specs.FileRuns.{Ends, RanFiles, RanInput}
use Rattle.ti_tool.specs.Comparisons.{RanDifference}
use Rattle.ti_tool.specs.Streams.{KnownFiles, Streams}
use Rattle.ti_tool.specs.Summaries.{summary_of}
use Rattle.ti_tool.specs.Voice.{IsPage}
use Rattle.ti_lint.specs.declared.lint_options.LintOptions.{LintOptions}

-- no stream is a terminal
abbrev pub no_terminals : Terminals
no_terminals = record { input = false; output = destinations.File; errors = false }

-- the statuses after which something may have been written as a result: done, a fault that `check`
-- found or a flag that is not set, a failed read or write
abbrev pub MayHaveWritten : ℕ → Type 0
MayHaveWritten status = (status ≡ 0) ⊎ ((status ≡ 1) ⊎ (status ≡ 5))

-- In what follows `unread` says that the reader is what it was, `unwritten` that the writer of the results is what it was.

-- a request was carried out, of an entry for the files that are named, if there are any, or else of standard input; or two
-- were compared
abbrev pub RanRequest : KnownFiles → Extras → Action → List (List ℕ) → Type 0 → Streams → Streams → ℕ → Type 0
RanRequest known extras (Entry e) (file ∷ files) unwritten before after status =
    RanFiles known extras e (file ∷ files) before after status
RanRequest known extras (Difference d) files unwritten before after status =
    RanDifference known extras.has_advice d unwritten before after status
RanRequest known extras action files unwritten before after status =
    RanInput extras action unwritten before after status

-- a summary is wanted of `lint` if faults are told at a terminal, or if the words have `--summary`
abbrev pub summary_for : Terminals → List (List ℕ) → Action → Option LintOptions
summary_for at words = summary_of (at.errors || has_summary words)

-- advice is written at a terminal, and on a notation that was typed
abbrev pub is_source : Action → Bool
is_source (Source c) = true
is_source action = false

-- what is wanted of a request on standard error
abbrev pub extras_for : Terminals → List (List ℕ) → Action → Extras
extras_for at words action =
    record { summary = summary_for at words action; has_advice = at.errors || is_source action }

-- no request that the words make has a summary
abbrev pub HasNoSummary : Terminals → List (List ℕ) → Type 0
HasNoSummary at words =
    (command : Command) (rows : List Row) (action : Action) → Reads words command rows
    → Asks at.output command rows action → summary_for at words action ≡ None

-- findings are explained, or no finding has one of the words, or memory was refused
abbrev pub Explains : List ℕ → List ℕ → ℕ → Type 0
Explains out line code =
    (IsPage out × (line ≡ []) × (code ≡ 0))
    ⊎ (((out ≡ []) × IsPage line × (code ≡ 2))
    ⊎ ((out ≡ []) × (line ≡ fault_line fault.Memory) × (code ≡ 6)))

-- there is no request: the result is help, or explains findings, or is nothing, with a line on the words, on the fault of the line or on memory. What a
-- message says is `clap`'s, which states nothing of it.
abbrev pub IsSaid : NoRequest → List ℕ → List ℕ → ℕ → Type 0
IsSaid (no_request.Help message) out line code = (out ≡ message_text message) × (line ≡ []) × (code ≡ 0)
IsSaid (no_request.Refused message) out line code = (out ≡ []) × (line ≡ message_text message) × (code ≡ 2)
IsSaid (no_request.Fault why) out line code = (out ≡ []) × IsRequestLine why line × (code ≡ 2)
IsSaid (no_request.Explanation words) out line code = Explains out line code
IsSaid no_request.Memory out line code = (out ≡ []) × (line ≡ fault_line fault.Memory) × (code ≡ 6)

abbrev pub EndsWords : Bool → NoRequest → Type 0 → Streams → Streams → ℕ → Type 0
EndsWords has_advice why = Ends has_advice (IsSaid why)

-- what a line asks for was done, of the files that it names; or nothing is read, since findings are explained, or the line has a
-- fault, or memory was refused
abbrev pub DidLine : Terminals → KnownFiles → List (List ℕ) → Command → List Row → Type 0 → Type 0 → Streams → Streams
    → ℕ → Type 0
DidLine at known words command rows unread unwritten before after status =
    ((action : Action) × Asks at.output command rows action × (is_explain rows ≡ false)
    × RanRequest known (extras_for at words action) action (files_of words) unwritten before after status)
    ⊎ ((why : NoRequest) × IsReadAs at.output words command rows (Err why)
    × unread × EndsWords at.errors why unwritten before after status)

-- words that are no line: they ask for help or are refused, with a message of at least one byte, or
-- memory was refused; nothing is read
abbrev pub DidNoLine : Terminals → List (List ℕ) → Type 0 → Type 0 → Streams → Streams → ℕ → Type 0
DidNoLine at words unread unwritten before after status =
    (why : NoRequest) × GivesNone at.output words why × HasText why
    × unread × EndsWords at.errors why unwritten before after status
