-- What each call of the program makes of the bytes that it read.
use Rattle.std.specs.Prelude.{◌≡◌, ◌⊎◌, ◌==◌, ℕ, Bool, true, false, List, [], Result, Ok, Err, Some, None, Option, length, option_and_then}
use Rattle.ti_cap.specs.Refusal.{IsFaultless}
use Rattle.ti_expand.specs.declared.values.Value.{Value}
use Rattle.ti_layout.specs.declared.fault.Refused.{Refused}
use Rattle.ti_words.specs.Value.{EntryValue}
use Rattle.ti_words.specs.Spelling.{Spells}
use Rattle.ti_layout.specs.Refusal.{refusal}
use Rattle.ti_names.specs.declared.name_table.NameTable.{NameTable}
use Rattle.ti_names.specs.declared.name_table.NameTable.TheVariants as tables
use Rattle.ti_words.specs.declared.Width.{Width}
use Rattle.ti_words.specs.Items.{ItemValue, text_in}
use Rattle.ti_pad.specs.Setting.{Setting}
use Rattle.ti_draft.specs.Canonical.{canonical}
use Rattle.ti_draft.specs.EncodeFaults.{encode_fault}
use Rattle.ti_line.specs.declared.options.ListOptions.{ListOptions}
use Rattle.ti_line.specs.declared.options.Naming.{Naming}
use Rattle.ti_line.specs.declared.options.Output.{Output}
use Rattle.ti_line.specs.declared.options.Verdicts.{Verdicts}
use Rattle.ti_line.specs.declared.options.Verdicts.TheVariants.{All}
use Rattle.ti_line.specs.Options.{list_options, naming_of, output_of, output_bytes}
pub use Rattle.ti_tool.specs.Expansions.{IsExpansion, IsPadded, IsUnexpanded}
use Rattle.ti_escape.specs.declared.color.Color.{Color}
use Rattle.ti_lint.specs.declared.lint_options.LintOptions.{LintOptions}
use Rattle.ti_forms.specs.Blocks.{AreLines}
use Rattle.ti_tool.specs.Got.{IsGot}
pub use Rattle.ti_tool.specs.Traces.{IsTraced, IsTracedOf}
use Rattle.ti_tool.specs.Sources.{IsDueForSource}
use Rattle.ti_tool.specs.Verdicts.{AreVerdicts}
use Rattle.ti_tool.specs.Documents.{FindsIn, IsDocument}
use Rattle.ti_listing.specs.Listing.{entry_lines}
use Rattle.ti_tool.specs.ItemNames.{IsItemCalled}
use Rattle.ti_tool.specs.declared.item_name.Names.TheVariants.{Texts}
use Rattle.ti_line.specs.declared.request.Action.{Action}
use Rattle.ti_line.specs.declared.request.Action.TheVariants.{Capability, Difference, Entry, Source}
use Rattle.ti_line.specs.declared.request.CapabilityResult.{CapabilityResult}
use Rattle.ti_line.specs.declared.request.CapabilityResult.TheVariants as of_cap
use Rattle.ti_line.specs.declared.request.EntryAction.{EntryAction}
use Rattle.ti_line.specs.declared.request.EntryAction.TheVariants as of_entry
use Rattle.ti_tool.specs.declared.fault.ToolFault.{ToolFault}
use Rattle.ti_tool.specs.declared.fault.ToolFault.TheVariants as fault

-- the result of `cap` as it is asked for, or the first fault
abbrev pub IsCappedAs : List Value → Output → List ℕ → Result (List ℕ) ToolFault → Type 0
IsCappedAs parameters output input (Ok out) =
    (plain : List ℕ) × IsFaultless input × IsExpansion input parameters plain
    × (out ≡ output_bytes output plain)
IsCappedAs parameters output input (Err e) = IsUnexpanded input parameters e

-- its bytes, or the same in hex
abbrev pub IsCapped : List Value → Bool → List ℕ → Result (List ℕ) ToolFault → Type 0
IsCapped parameters hex = IsCappedAs parameters (output_of hex false)

-- what is due for a text, or for none
abbrev pub IsDue : Option (List ℕ) → List Value → Setting → Output → Result (List ℕ) ToolFault → Type 0
IsDue (Some text) parameters setting output answer =
    IsPadded text parameters setting output answer
IsDue None parameters setting output answer = answer ≡ Err fault.NoSuchText

-- what is due for the text of an entry that a name means
abbrev pub IsDueFor : NameTable → List ℕ → List Value → Setting → Output → EntryValue
    → Result (List ℕ) ToolFault → Type 0
IsDueFor names name parameters setting output v answer =
    (item : Option ItemValue) × IsItemCalled (Texts names) name v item
    × IsDue (option_and_then text_in item) parameters setting output answer

-- what is due for the bytes of an entry: their refusal, or what is due for the entry that they spell
abbrev pub IsDueFrom : (EntryValue → Result (List ℕ) ToolFault → Type 0) → List ℕ
    → Result (List ℕ) ToolFault → Type 0
IsDueFrom due input answer =
    ((refused : Refused) × (refusal input ≡ Some refused) × (answer ≡ Err (fault.Entry refused)))
    ⊎ ((v : EntryValue) × Spells input v × due v answer)

-- the result of `expand` of a common name: its bytes, or the same in hex
abbrev pub IsExpanded : List ℕ → List Value → Setting → Bool → List ℕ
    → Result (List ℕ) ToolFault → Type 0
IsExpanded name parameters setting hex =
    IsDueFrom (IsDueFor tables.Common name parameters setting (output_of hex false))

-- the lines of `show`
abbrev pub IsListed : ListOptions → EntryValue → Result (List ℕ) ToolFault → Type 0
IsListed options v answer = answer ≡ Ok (entry_lines options v)

-- by the common names, with names as they stand in the entry, and texts in hex
abbrev pub IsShown : List ℕ → Result (List ℕ) ToolFault → Type 0
IsShown = IsDueFrom (IsListed (list_options false false))

-- the lines of `check`, which are those of sound texts alone or not
abbrev pub IsJudgement : Verdicts → Naming → Bool → EntryValue → Result (List ℕ) ToolFault → Type 0
IsJudgement which naming passed v (Ok out) = AreVerdicts which naming v out passed
IsJudgement which naming passed v (Err e) = ⊥

-- on each text, by the common names, with names as they stand in the entry
abbrev pub IsChecked : Bool → List ℕ → Result (List ℕ) ToolFault → Type 0
IsChecked passed = IsDueFrom (IsJudgement All (naming_of false false false) passed)

-- the lines of `lint` on what is wrong with an entry, with something before the first of each; nothing is wrong if there are none
abbrev pub IsLinted : LintOptions → Color → List ℕ → Bool → List ℕ → EntryValue → Result (List ℕ) ToolFault → Type 0
IsLinted options color before passed input v (Ok lines) =
    AreLines options color before input v lines × (passed ≡ (length lines == 0))
IsLinted options color before passed input v (Err e) = ⊥

-- the canonical bytes of an entry, or why it has none
abbrev pub IsEncoding : EntryValue → Result (List ℕ) ToolFault → Type 0
IsEncoding v (Ok out) = (encode_fault v ≡ None) × (out ≡ canonical v)
IsEncoding v (Err (fault.Encode unfit)) = encode_fault v ≡ Some unfit
IsEncoding v (Err _) = ⊥

-- an entry in the width that is asked for, or in its own
abbrev pub in_width : Option Width → EntryValue → EntryValue
in_width None v = v
in_width (Some width) v = record v { width = width }

-- the result of `convert`, or the first fault
abbrev pub IsConverted : Option Width → List ℕ → Result (List ℕ) ToolFault → Type 0
IsConverted width = IsDueFrom (λ v. IsEncoding (in_width width v))

-- ---- what is due for a request

-- on a capability
abbrev pub IsOutputOf : CapabilityResult → List Value → List ℕ → Result (List ℕ) ToolFault → Type 0
IsOutputOf (of_cap.Cap output) parameters = IsCappedAs parameters output
IsOutputOf (of_cap.Trace form) parameters = IsTraced parameters form

-- on an entry that is sound or not, or whose flag is set or not, which the bytes spell, with something before each finding
abbrev pub IsDueIn : List ℕ → EntryAction → Bool → List ℕ → EntryValue
    → Result (List ℕ) ToolFault → Type 0
IsDueIn before (of_entry.Show options) passed input = IsListed options
IsDueIn before (of_entry.Json document) passed input = IsDocument document passed input
IsDueIn before (of_entry.Check which naming) passed input = IsJudgement which naming passed
IsDueIn before (of_entry.Lint options color) passed input = IsLinted options color before passed input
IsDueIn before (of_entry.Expand e) passed input =
    IsDueFor e.name.names e.name.name.now e.parameters.values e.padding e.output
IsDueIn before (of_entry.Convert width) passed input = λ v. IsEncoding (in_width width v)
IsDueIn before (of_entry.Get g) passed input = IsGot g passed
IsDueIn before (of_entry.Trace t) passed input = IsTracedOf t

-- on the bytes of an entry
abbrev pub IsDueOf : List ℕ → EntryAction → Bool → List ℕ → Result (List ℕ) ToolFault
    → Type 0
IsDueOf before e passed input = IsDueFrom (IsDueIn before e passed input) input

-- on the bytes that were read; two files are compared by a run alone, which reads them
abbrev pub IsAnswer : Action → Bool → List ℕ → Result (List ℕ) ToolFault → Type 0
IsAnswer (Capability c) passed = IsOutputOf c.result c.parameters.values
IsAnswer (Source c) passed = IsDueForSource (IsOutputOf c.result c.parameters.values)
IsAnswer (Entry e) passed = IsDueOf [] e passed
IsAnswer (Difference d) passed = λ input answer. ⊥

-- only `check`, also as JSON, and `lint` find that something is wrong, and only `get` that a flag is not set
abbrev pub Finds : Action → Bool → Type 0
Finds (Entry (of_entry.Json document)) passed = FindsIn document passed
Finds (Entry (of_entry.Check which naming)) passed = Unit {0}
Finds (Entry (of_entry.Lint options color)) passed = Unit {0}
Finds (Entry (of_entry.Get g)) passed = Unit {0}
Finds _ passed = passed ≡ true
