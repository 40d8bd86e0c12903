-- The lines that the program writes on faults, and what was written of one.
use Rattle.std.specs.Prelude.{◌<◌, ◌⊎◌, ℕ, Bool, true, false, List, ◌++◌, Option, codes, decimal, length, take, ◌≡◌}
use Rattle.std.specs.Io.KnownBytes.{Appends}
use Rattle.ti_layout.specs.Faults.{fault_word}
use Rattle.ti_draft.specs.EncodeFaults.{encode_fault_word}
use Rattle.ti_escape.specs.FaultNames.{notation_fault_word}
use Rattle.ti_cap.specs.FaultNames.{cap_fault_word}
use Rattle.ti_tool.specs.Voice.{IsAdvised, IsPage}
use Rattle.ti_tool.specs.declared.fault.ToolFault.{ToolFault}
use Rattle.ti_tool.specs.declared.fault.ToolFault.TheVariants as fault
use Rattle.ti_line.specs.declared.params.WordFault.{WordFault}
use Rattle.ti_line.specs.declared.params.WordFault.TheVariants as words
use Rattle.ti_line.specs.declared.request.Action.{Action}
use Rattle.ti_line.specs.declared.request.Action.TheVariants.{Entry}
use Rattle.ti_line.specs.declared.request.EntryAction.{EntryAction}
use Rattle.ti_line.specs.declared.request.EntryAction.TheVariants as of_entry
use Rattle.ti_line.specs.declared.no_request.LineFault.{LineFault}
use Rattle.ti_line.specs.declared.no_request.LineFault.TheVariants as line

-- the name of a fault and its place, after what is at fault
abbrev pub place_line : List ℕ → List ℕ → ℕ → List ℕ
place_line subject name place = subject ++ name ++ codes " at " ++ decimal place ++ codes "\n"

-- the line on the fault of a call
abbrev pub fault_line : ToolFault → List ℕ
fault_line (fault.Entry refused) =
    place_line (codes "entry: ") (fault_word refused.fault) refused.place
fault_line (fault.Encode unfit) = codes "entry: " ++ encode_fault_word unfit ++ codes "\n"
fault_line (fault.Cap refused) =
    place_line (codes "capability: ") (cap_fault_word refused.fault) refused.place
fault_line (fault.Source refused) =
    place_line (codes "source: ") (notation_fault_word refused.fault) refused.place
fault_line fault.HasName = place_line (codes "source: ") (codes "HasName") 0
fault_line fault.NoSuchText = codes "capability: absent\n"
fault_line fault.NoSuchName = codes "capability: absent\n"
fault_line (fault.OnlyNumbers which) = codes "parameter " ++ decimal which ++ codes ": no 32-bit number\n"
fault_line (fault.TextTooLong parameter) =
    codes "capability: TextTooLong " ++ decimal parameter ++ codes "\n"
fault_line (fault.TooMuch need) = codes "capability: TooMuch " ++ decimal need ++ codes "\n"
fault_line fault.Read = codes "input: failed\n"
fault_line (fault.Write gone) = codes "output: failed\n"
fault_line fault.Memory = codes "memory\n"

-- the line on words that stand for no parameters
abbrev pub words_line : WordFault → List ℕ
words_line words.TooMany = codes "parameters: more than nine\n"
words_line (words.BadWord which) = codes "parameter " ++ decimal which ++ codes ": bad word\n"

-- the line on what a command line can't ask for is a page, but for words that are no parameters
abbrev pub IsRequestLine : LineFault → List ℕ → Type 0
IsRequestLine (line.Words why) told = told ≡ words_line why
IsRequestLine why told = IsPage told

-- `get`, and `trace` of an entry, name a capability that they do not find or that takes numbers
abbrev pub is_of_name : ToolFault → Bool
is_of_name fault.NoSuchText = true
is_of_name fault.NoSuchName = true
is_of_name (fault.OnlyNumbers which) = true
is_of_name e = false

abbrev pub names_capability : EntryAction → ToolFault → Bool
names_capability (of_entry.Get g) e = is_of_name e
names_capability (of_entry.Trace t) e = is_of_name e
names_capability action e = false

-- the line on the fault of a request: such a one is a page, any other is fixed
abbrev pub IsAnswerLine : Bool → Action → ToolFault → List ℕ → Type 0
IsAnswerLine has_advice (Entry action) e told =
    IsAdvised has_advice (fault_line e) told ⊎ ((names_capability action e ≡ true) × IsPage told)
IsAnswerLine has_advice action e told = IsAdvised has_advice (fault_line e) told

-- a text was written whole, or its first bytes, if the writer failed after them
abbrev pub Told : List ℕ → Option (List ℕ) → Option (List ℕ) → Type 0
Told text before after =
    Appends before after text
    ⊎ ((gone : ℕ) × (gone < length text) × Appends before after (take gone text))
