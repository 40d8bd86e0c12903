-- What a run of `diff` does with the two files that it compares.
use Rattle.std.specs.List.{list_all}
use Rattle.std.specs.Prelude.{◌≡◌, ◌⊎◌, ℕ, Bool, true, List, [], ◌∷◌, ◌++◌, codes, Some, false}
use Rattle.ti_escape.specs.Laws.{is_printable}
use Rattle.ti_layout.specs.declared.fault.Refused.{Refused}
use Rattle.ti_layout.specs.Refusal.{refusal}
use Rattle.ti_words.specs.Spelling.{Spells}
use Rattle.ti_words.specs.Value.{EntryValue}
use Rattle.ti_line.specs.declared.options.Comparison.{Comparison}
use Rattle.ti_line.specs.declared.options.Comparison.TheVariants as forms
use Rattle.ti_line.specs.declared.options.Likeness.{Likeness}
use Rattle.ti_line.specs.declared.request.Pair.{Pair}
use Rattle.ti_tool.specs.declared.fault.ToolFault.TheVariants as fault
use Rattle.ti_listing.specs.Differences.{AreDifferences, DifferenceValue}
use Rattle.ti_tool.specs.FaultLines.{fault_line}
use Rattle.ti_tool.specs.FileRuns.{Contents, Ends, IsRefusedMemory, IsSupplied, IsUnread, Supply, Unread}
use Rattle.ti_sink.specs.Pages.{is_page}
use Rattle.ti_tool.specs.Files.{file_line}
use Rattle.ti_tool.specs.Streams.{KnownFiles, Stream, Streams, file_name}
use Rattle.ti_tool.specs.Voice.{IsAdvised}

-- contents that are no entry lead to the line on that, with the name of the file before it
abbrev pub IsRefusedFile : Bool → List ℕ → List ℕ → List ℕ → List ℕ → ℕ → Type 0
IsRefusedFile has_advice name contents out line status =
    (refused : Refused) × (refusal contents ≡ Some refused) × (out ≡ [])
    × ((told : List ℕ) × IsAdvised has_advice (fault_line (fault.Entry refused)) told × (line ≡ file_line name told))
    × (status ≡ 3)

-- 1 if something is told
abbrev pub status_of : List DifferenceValue → ℕ
status_of [] = 0
status_of (d ∷ ds) = 1

-- what the entries of two files do not have alike, as a page of lines, or as a document of JSON in a line; rows show both
abbrev pub IsComparisonText : Comparison → List ℕ → Type 0
IsComparisonText (forms.Lines color) out = is_page color out ≡ true
IsComparisonText (forms.Headed color) out = is_page color out ≡ true
IsComparisonText forms.Json out = (text : List ℕ) × (list_all is_printable text ≡ true) × (out ≡ text ++ codes "\n")

-- two entries lead to that
abbrev pub AreCompared : Likeness → Comparison → EntryValue → EntryValue → List ℕ → List ℕ → ℕ → Type 0
AreCompared by form v w out line status =
    (told : List DifferenceValue) × AreDifferences by v w told
    × IsComparisonText form out × (line ≡ []) × (status ≡ status_of told)

-- contents that are two entries lead to that; else the first file that is none leads to its fault
abbrev pub IsCompared : Bool → Likeness → Comparison → List ℕ → List ℕ → List ℕ → List ℕ → List ℕ → List ℕ → ℕ → Type 0
IsCompared has_advice by form file other contents of_other out line status =
    ((v : EntryValue) × (w : EntryValue) × Spells contents v × Spells of_other w
    × AreCompared by form v w out line status)
    ⊎ (IsRefusedFile has_advice file contents out line status
    ⊎ (((v : EntryValue) × Spells contents v) × IsRefusedFile has_advice other of_other out line status))

-- the files are read in their order; the first that can't be read leads to the line on that
abbrev pub IsComparison : Bool → Likeness → Comparison → List ℕ → List ℕ → Supply → Supply → List ℕ → List ℕ → ℕ → Type 0
IsComparison has_advice by form file other (Contents one) (Contents two) out line status =
    IsCompared has_advice by form file other one two out line status
IsComparison has_advice by form file other (Contents one) Unread out line status = IsUnread other out line status
IsComparison has_advice by form file other Unread two out line status = IsUnread file out line status
IsComparison has_advice by form file other _ _ out line status = IsRefusedMemory out line status

-- one file was read, and then the other
abbrev pub AreSupplied : KnownFiles → Pair → Stream → Stream → Supply → Supply → Type 0
AreSupplied known d left0 left1 one two =
    (between : Stream) × IsSupplied known (file_name d.file.now false) left0 between one
    × IsSupplied known (file_name d.other.now false) between left1 two

-- what they led to is written, or a first part of it
abbrev pub RanDifference : KnownFiles → Bool → Pair → Type 0 → Streams → Streams → ℕ → Type 0
RanDifference known has_advice d unwritten before after status =
    (one : Supply) × (two : Supply) × AreSupplied known d before.left after.left one two
    × Ends has_advice (IsComparison has_advice d.likeness d.form d.file.now d.other.now one two) unwritten
    before after status
