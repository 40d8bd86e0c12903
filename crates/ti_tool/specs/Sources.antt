-- What is due for the notation of a capability.
use Rattle.std.specs.Prelude.{◌≡◌, ◌*◌, ℕ, List, Result, Ok, Err, codes, length, nat_lt, if◌then◌else◌}
use Rattle.std.specs.Io.BufRead.{strip_last}
use Rattle.ti_base.specs.Letters.{letter}
use Rattle.ti_base.specs.Limits.{most_capability_bytes}
use Rattle.ti_cap.specs.declared.language.CapFault.TheVariants.{TooLong}
use Rattle.ti_cap.specs.declared.language.CapRefused.{CapRefused}
use Rattle.ti_escape.specs.Reading.{reading}
use Rattle.ti_escape.specs.declared.reading.NotationRefused.{NotationRefused}
use Rattle.ti_tool.specs.Pasted.{has_name}
use Rattle.ti_tool.specs.declared.fault.ToolFault.{ToolFault}
use Rattle.ti_tool.specs.declared.fault.ToolFault.TheVariants as fault

-- the most characters of the notation of a capability: at most four for each byte
abbrev pub most_notation_chars : ℕ
most_notation_chars = 4 * most_capability_bytes

-- the notation in an input, of which a newline at the end is no part
abbrev pub notation_in : List ℕ → List ℕ
notation_in input = strip_last (letter (codes "\n")) input

-- the text that is read, or the fault of the notation
abbrev pub text_read : Result (List ℕ) NotationRefused → Result (List ℕ) ToolFault
text_read (Ok text) = Ok text
text_read (Err refused) = Err (fault.Source refused)

-- why a notation of more characters is none of a capability
abbrev pub too_long : CapRefused
too_long = record { fault = TooLong; place = most_capability_bytes }

-- the text of a notation; one of more characters is too long for a capability, whatever they are
abbrev pub text_of : List ℕ → Result (List ℕ) ToolFault
text_of notation =
    if nat_lt most_notation_chars (length notation)
    then Err (fault.Cap too_long)
    else text_read (reading notation)

-- the text of the notation in an input; one with the name of its capability before it is none
abbrev pub text_in_source : List ℕ → Result (List ℕ) ToolFault
text_in_source input = if has_name input then Err fault.HasName else text_of (notation_in input)

-- what is due for a text, or why there is none
abbrev pub IsDueForText : (List ℕ → Result (List ℕ) ToolFault → Type 0) → Result (List ℕ) ToolFault
    → Result (List ℕ) ToolFault → Type 0
IsDueForText due (Ok text) answer = due text answer
IsDueForText due (Err e) answer = answer ≡ Err e

-- what is due for the text whose notation is in an input
abbrev pub IsDueForSource : (List ℕ → Result (List ℕ) ToolFault → Type 0) → List ℕ
    → Result (List ℕ) ToolFault → Type 0
IsDueForSource due input answer = IsDueForText due (text_in_source input) answer
