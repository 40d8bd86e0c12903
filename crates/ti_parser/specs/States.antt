-- Which states have something of a function.
use Rattle.std.specs.Prelude.{Bool, true, false}
use Rattle.ti_parser.specs.declared.state.State.{State}
use Rattle.ti_parser.specs.declared.state.State.TheVariants.{Ground, AfterEscape, AfterCut, EscapeIntermediate, SequenceEntry, SequenceParameters, SequenceIntermediate, SequenceIgnore, DeviceIgnore, SystemNumber, SystemBody, Palette, StringStart, StringBody}

-- nothing of a function is kept
abbrev pub is_fresh : State → Bool
is_fresh Ground = true
is_fresh AfterEscape = true
is_fresh AfterCut = true
is_fresh SequenceIgnore = true
is_fresh state = false

-- bytes are read as those of an escape sequence, a control sequence, or the front of a device control string
abbrev pub is_header : State → Bool
is_header Ground = false
is_header DeviceIgnore = false
is_header SystemNumber = false
is_header SystemBody = false
is_header Palette = false
is_header StringStart = false
is_header StringBody = false
is_header state = true

-- a byte of data is text alone
abbrev pub is_text : State → Bool
is_text Ground = true
is_text DeviceIgnore = true
is_text SystemBody = true
is_text StringBody = true
is_text state = false

-- a string is underway
abbrev pub is_string : State → Bool
is_string Ground = false
is_string AfterEscape = false
is_string AfterCut = false
is_string EscapeIntermediate = false
is_string SequenceEntry = false
is_string SequenceParameters = false
is_string SequenceIntermediate = false
is_string SequenceIgnore = false
is_string state = true
