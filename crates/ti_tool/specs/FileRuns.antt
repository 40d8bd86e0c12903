-- What a run does with standard input, and with files that were named, one after another.
use Rattle.std.specs.Prelude.{◌≡◌, ◌<◌, ◌⊎◌, ◌||◌, ◌&&◌, ◌==◌, ℕ, max, Bool, not, true, false, List, [], ◌∷◌, ◌++◌, Option, Some, None, IfSome, Result, Ok, Err, codes, if◌then◌else◌, length, map, nat_lt, take, unwrap_or}
use Rattle.std.specs.List.{flat_map, list_any}
use Rattle.std.specs.Io.KnownBytes.{Appends, Consumes, IsAtEnd}
use Rattle.ti_line.specs.CommandLine.{is_minus}
use Rattle.ti_line.specs.declared.request.Action.{Action}
use Rattle.ti_line.specs.declared.request.Action.TheVariants.{Entry}
use Rattle.ti_line.specs.declared.request.EntryAction.{EntryAction}
use Rattle.ti_line.specs.declared.request.EntryAction.TheVariants as of_entry
use Rattle.ti_tool.specs.declared.fault.ToolFault.{ToolFault}
use Rattle.ti_tool.specs.declared.fault.ToolFault.TheVariants as fault
use Rattle.ti_tool.specs.declared.extras.Extras.{Extras}
use Rattle.ti_tool.specs.Calls.{FailsAsDue, IsEnough}
use Rattle.ti_tool.specs.FaultLines.{IsAnswerLine, Told, fault_line}
use Rattle.ti_tool.specs.Files.{IsDueOfFile, before_findings, file_line}
use Rattle.ti_tool.specs.Results.{Finds, IsAnswer, IsDueOf}
use Rattle.ti_tool.specs.Statuses.{status_for}
use Rattle.ti_tool.specs.Summaries.{IsSummarized}
use Rattle.ti_lint.specs.declared.lint_options.LintOptions.{LintOptions}
use Rattle.ti_tool.specs.Voice.{IsAdvised, IsPage}
use Rattle.ti_tool.specs.Streams.{AreContents, AreFound, FileName, Gives, IsOne, KnownFiles, Lookup, Stream, Streams}

-- ---- contents

-- an answer to a request of contents has its output and no line, or no output and the line on its fault, after what it is
-- called; out of memory only if what is due needs memory
abbrev pub AnswerLeadsTo : (Bool → Result (List ℕ) ToolFault → Type 0) → Bool → Action → (List ℕ → List ℕ)
    → Result Bool ToolFault → List ℕ → List ℕ → Type 0
AnswerLeadsTo due has_advice action called (Ok passed) out line =
    Finds action passed × due passed (Ok out) × (line ≡ [])
AnswerLeadsTo due has_advice action called (Err why) out line =
    FailsAsDue (due true) why × (out ≡ [])
    × ((told : List ℕ) × IsAnswerLine has_advice action why told × (line ≡ called told))

-- contents lead to an output, a line and a status
abbrev pub LeadsTo : (Bool → Result (List ℕ) ToolFault → Type 0) → Bool → Action → (List ℕ → List ℕ)
    → List ℕ → List ℕ → ℕ → Type 0
LeadsTo due has_advice action called out line status =
    (answer : Result Bool ToolFault) × (status ≡ status_for answer)
    × AnswerLeadsTo due has_advice action called answer out line

-- ---- which files

-- only `show`, `check` and `lint` take a folder for the files in it, as JSON too
abbrev pub takes_folders : EntryAction → Bool
takes_folders (of_entry.Show options) = true
takes_folders (of_entry.Json document) = true
takes_folders (of_entry.Check which naming) = true
takes_folders (of_entry.Lint options color) = true
takes_folders _ = false

-- a word names the file of this name, or if it is looked up what is found by it; one that the system refuses is a file that can't be read
abbrev pub IsLookupIf : Bool → Option Lookup → List ℕ → Lookup → Type 0
IsLookupIf false known word found = IsOne word false found
IsLookupIf true known word found =
    (((found.is_folder ≡ true) ⊎ ((refused : Bool) × IsOne word refused found)) × AreFound known found)
    ⊎ IsOne word true found

-- standard input, `-`, is not looked up
abbrev pub IsLookup : KnownFiles → EntryAction → List ℕ → Lookup → Type 0
IsLookup known e word = IsLookupIf (takes_folders e && not (is_minus word)) (known.found word) word

abbrev pub AreLookups : KnownFiles → EntryAction → List (List ℕ) → List Lookup → Type 0
AreLookups known e [] founds = founds ≡ []
AreLookups known e (word ∷ words) [] = ⊥
AreLookups known e (word ∷ words) (found ∷ founds) =
    IsLookup known e word found × AreLookups known e words founds

-- results tell the names of their files if there are several words or a folder
abbrev pub are_several : List (List ℕ) → List Lookup → Bool
are_several words founds = nat_lt 1 (length words) || list_any (λ l. l.is_folder) founds

-- ---- one file

-- what is done with each file
pub record Job : Type 0 where
  pub e : EntryAction
  pub are_several : Bool
  pub summary : Option LintOptions
  pub has_advice : Bool

-- what there is of a file: its contents; or the system gives none; or memory was refused
pub data Supply : Type 0 where
  Contents : List ℕ → Supply
  Unread : Supply
  NoMemory : Supply

-- the contents of standard input are what it has left, those of another file what the system knows of it
abbrev pub IsReadFrom : Bool → Stream → Stream → Stream → List ℕ → Type 0
IsReadFrom true contents left0 left1 bytes = Gives left0 left1 bytes
IsReadFrom false contents left0 left1 bytes = AreContents contents bytes × (left1 ≡ left0)

abbrev pub IsSupplied : KnownFiles → FileName → Stream → Stream → Supply → Type 0
IsSupplied known file left0 left1 (Contents bytes) =
    (file.is_refused ≡ false) × IsReadFrom (is_minus file.name) (known.contents file.name) left0 left1 bytes
IsSupplied known file left0 left1 _ = Unit {0}

-- the output of its contents, with its name, or their fault
abbrev pub IsDueOfJob : Job → List ℕ → List ℕ → Bool → Result (List ℕ) ToolFault → Type 0
IsDueOfJob job name contents passed (Ok out) =
    IsDueOfFile job.are_several job.e name passed contents out
IsDueOfJob job name contents passed (Err why) =
    IsDueOf (before_findings job.are_several name) job.e passed contents (Err why)

abbrev pub IsOutcomeOfContents : Job → List ℕ → List ℕ → List ℕ → List ℕ → ℕ → Type 0
IsOutcomeOfContents job name contents out line status =
    LeadsTo (IsDueOfJob job name contents) job.has_advice (Entry job.e) (file_line name) out line status

-- a file that can't be read leads to a page after its name, which says why, and to status 5
abbrev pub IsUnread : List ℕ → List ℕ → List ℕ → ℕ → Type 0
IsUnread name out line status =
    (reason : List ℕ) × IsPage reason × (out ≡ []) × (line ≡ file_line name reason) × (status ≡ 5)

-- refused memory leads to its line and to status 6
abbrev pub IsRefusedMemory : List ℕ → List ℕ → ℕ → Type 0
IsRefusedMemory out line status = (out ≡ []) × (line ≡ fault_line fault.Memory) × (status ≡ 6)

-- what a file leads to: a result, a line and a status
abbrev pub IsOutcome : Job → List ℕ → Supply → List ℕ → List ℕ → ℕ → Type 0
IsOutcome job name (Contents bytes) out line status = IsOutcomeOfContents job name bytes out line status
IsOutcome job name Unread out line status = IsUnread name out line status
IsOutcome job name NoMemory out line status = IsRefusedMemory out line status

-- what a file led to is written, and the status is its; or the writer of results failed at one of its
-- bytes, and the line on that is told, with the reason
abbrev pub Delivered : Bool → Stream → Stream → Stream → Stream → Option ℕ → List ℕ → List ℕ → ℕ → Type 0
Delivered has_advice held0 held1 told0 told1 (Some s) out line status =
    (s ≡ status) × Appends held0 held1 out × Told line told0 told1
Delivered has_advice held0 held1 told0 told1 None out line status =
    (gone : ℕ) × (gone < length out) × Appends held0 held1 (take gone out)
    × ((lines : List ℕ) × IsAdvised has_advice (fault_line (fault.Write gone)) lines × Told lines told0 told1)

-- something leads to an output, a line and a status, which are delivered; after a fault that is no failed write nothing was
-- written as a result
abbrev pub Ends : Bool → (List ℕ → List ℕ → ℕ → Type 0) → Type 0 → Streams → Streams → ℕ → Type 0
Ends has_advice leads unwritten before after status =
    (out : List ℕ) × (line : List ℕ) × (code : ℕ) × leads out line code
    × ((answer : Option ℕ)
    × Delivered has_advice before.held after.held before.told after.told answer out line code
    × (status ≡ unwrap_or answer 5) × IfSome answer (λ s. 1 < s → unwritten))

-- ---- standard input

-- what was read of it: all, or as much as is enough for the request; or reading failed
abbrev pub IsInput : Action → Stream → Stream → Supply → Type 0
IsInput action left0 left1 (Contents bytes) = Consumes left0 left1 bytes × (IsEnough action bytes ⊎ IsAtEnd left1)
IsInput action left0 left1 Unread = (bytes : List ℕ) × Consumes left0 left1 bytes
IsInput action left0 left1 NoMemory = ⊥

-- if no word names it, its lines on faults have no name
abbrev pub IsOutcomeOfInput : Bool → Action → Supply → List ℕ → List ℕ → ℕ → Type 0
IsOutcomeOfInput has_advice action (Contents bytes) out line status =
    LeadsTo (λ passed. IsAnswer action passed bytes) has_advice action (λ told. told) out line status
IsOutcomeOfInput has_advice action _ out line status =
    (out ≡ []) × IsAnswerLine has_advice action fault.Read line × (status ≡ 5)

-- a request of it was carried out, with a summary if that is wanted
abbrev pub RanInput : Extras → Action → Type 0 → Streams → Streams → ℕ → Type 0
RanInput extras action unwritten before after status =
    (supply : Supply) × (between : Streams) × IsInput action before.left between.left supply
    × Ends extras.has_advice (IsOutcomeOfInput extras.has_advice action supply) unwritten before between status
    × IsSummarized extras.summary between after

-- ---- one after another

-- a file, what there was of it, and what it led to
pub record DoneFile : Type 0 where
  pub file : FileName
  pub supply : Supply
  pub out : List ℕ
  pub line : List ℕ
  pub status : ℕ

-- it was read, which leaves standard input as it was unless it is that, and what it led to was written, or
-- the writer failed
pub record DidFile (known : KnownFiles) (job : Job) (before after : Streams) (answer : Option ℕ)
    (done : DoneFile) : Type 0 where
  pub supplied : IsSupplied known done.file before.left after.left done.supply
  pub kept : is_minus done.file.name ≡ false → after.left ≡ before.left
  pub led : IsOutcome job done.file.name done.supply done.out done.line done.status
  pub delivered :
      Delivered job.has_advice before.held after.held before.told after.told answer done.out done.line done.status

-- files are done, each with the streams that the one before it left
abbrev pub DidFiles : KnownFiles → Job → Streams → Streams → List DoneFile → Type 0
DidFiles known job before after [] = after ≡ before
DidFiles known job before after (done ∷ dones) =
    (between : Streams) × DidFile known job before between (Some done.status) done
    × DidFiles known job between after dones

abbrev pub files_done : List DoneFile → List FileName
files_done = map (λ done. done.file)

-- the greatest of their statuses, 0 if there is no file
abbrev pub greatest_status : List DoneFile → ℕ
greatest_status [] = 0
greatest_status (done ∷ dones) = max done.status (greatest_status dones)

-- all files are done, with a summary if that is wanted, and the status is the greatest; or those up to the one at
-- which the writer fails are done
abbrev pub RanFound : KnownFiles → Job → List FileName → Streams → Streams → ℕ → Type 0
RanFound known job files before after status =
    ((dones : List DoneFile) × (between : Streams) × (files ≡ files_done dones) × DidFiles known job before between dones
    × IsSummarized job.summary between after × (status ≡ greatest_status dones))
    ⊎ ((dones : List DoneFile) × (last : DoneFile) × (rest : List FileName) × (between : Streams)
    × (files ≡ files_done dones ++ last.file ∷ rest) × DidFiles known job before between dones
    × DidFile known job between after None last × (status ≡ max (greatest_status dones) 5))

-- ---- folders with nothing to read

abbrev pub line_on_none : EntryAction → List ℕ → Lookup → List ℕ
line_on_none e word found =
    if takes_folders e && (found.is_folder && length found.files == 0)
    then file_line word (codes "no entry was read\n") else []

abbrev pub lines_on_none : EntryAction → List (List ℕ) → List Lookup → List ℕ
lines_on_none e (word ∷ words) (found ∷ founds) = line_on_none e word found ++ lines_on_none e words founds
lines_on_none e _ _ = []

-- the lines come after all others, and the status is at least that of a failed read
abbrev pub EndsWithNone : List ℕ → ℕ → Streams → Streams → ℕ → Type 0
EndsWithNone [] code before after status = (after ≡ before) × (status ≡ code)
EndsWithNone (b ∷ bs) code before after status =
    (after.left ≡ before.left) × (after.held ≡ before.held) × Told (b ∷ bs) before.told after.told
    × (status ≡ max code 5)

-- what is done with the files that words name, unless memory is refused for their names
abbrev pub RanFiles : KnownFiles → Extras → EntryAction → List (List ℕ) → Streams → Streams → ℕ → Type 0
RanFiles known extras e words before after status =
    ((founds : List Lookup) × AreLookups known e words founds × (between : Streams) × (code : ℕ)
    × RanFound known
    (record { e = e; are_several = are_several words founds; summary = extras.summary; has_advice = extras.has_advice })
    (flat_map (λ l. l.files) founds) before between code
    × EndsWithNone (lines_on_none e words founds) code between after status)
    ⊎ (Delivered extras.has_advice before.held after.held before.told after.told (Some status) [] (fault_line fault.Memory) 6
    × (after.left ≡ before.left))
