-- The table of the parser: what a byte of a class does in a state, and the next state. P. Williams, "A parser for DEC's
-- ANSI-compatible video terminals", but for the rows that name another source.
use Rattle.ti_parser.specs.declared.class.ByteClass.{ByteClass}
use Rattle.ti_parser.specs.declared.class.ByteClass.TheVariants.{Control, Bell, Cancel, Escape, Intermediate, Digit, Separator, Marker, Final, Delete}
use Rattle.ti_parser.specs.declared.state.State.{State}
use Rattle.ti_parser.specs.declared.state.State.TheVariants.{Ground, AfterEscape, AfterCut, EscapeIntermediate, SequenceEntry, SequenceParameters, SequenceIntermediate, SequenceIgnore, DeviceEntry, DeviceParameters, DeviceIntermediate, DeviceIgnore, SystemNumber, SystemBody, Palette, StringStart, StringBody}
use Rattle.ti_parser.specs.declared.transition.ParserAction.{ParserAction}
use Rattle.ti_parser.specs.declared.transition.ParserAction.TheVariants.{Ignore, Execute, End, Abort, Collect, HandOutEscape, Introduce, AddDigit, Separate, Mark, HandOutSequence, Name, NameSystem, Put, AddHex}
use Rattle.ti_parser.specs.declared.transition.Transition.{Transition}

abbrev pub to : ParserAction → State → Transition
to action next = record { action = action; next = next }

-- VT500 manual, "Control characters": C0 within a sequence is carried out and the sequence goes on; CAN and SUB end it, and
-- so does ESC, which starts another; DEL is ignored
abbrev pub controls : State → ByteClass → Transition
controls state Control = to Execute state
controls state Bell = to Execute state
controls state Cancel = to Execute Ground
controls state Escape = to Ignore AfterEscape
controls state class = to Ignore state

-- C0 within a string is ignored, as DEL; a string ends at CAN, SUB, and any ESC (VT500 manual, "Device control strings")
abbrev pub string_controls : State → ByteClass → Transition
string_controls state Cancel = to Abort Ground
string_controls state Escape = to End AfterCut
string_controls state class = to Ignore state

-- ---- escape sequences: intermediate bytes, and a final one from 30 to 7E (ECMA-35, 13.2)

abbrev pub escape_row : State → ByteClass → Transition
escape_row state Intermediate = to Collect EscapeIntermediate
escape_row state Digit = to HandOutEscape Ground
escape_row state Separator = to HandOutEscape Ground
escape_row state Marker = to HandOutEscape Ground
escape_row state Final = to Introduce Ground
escape_row state class = controls state class

abbrev pub escape_intermediate_row : ByteClass → Transition
escape_intermediate_row Intermediate = to Collect EscapeIntermediate
escape_intermediate_row Digit = to HandOutEscape Ground
escape_intermediate_row Separator = to HandOutEscape Ground
escape_intermediate_row Marker = to HandOutEscape Ground
escape_intermediate_row Final = to HandOutEscape Ground
escape_intermediate_row class = controls EscapeIntermediate class

-- ---- control sequences (ECMA-48, 5.4): a private marker, numbers, intermediate bytes, a final byte. A colon separates
-- numbers as a semicolon does (xterm, "Control Sequences"; ECMA-48, 5.4.2)

abbrev pub sequence_row : State → Transition → ByteClass → Transition
sequence_row state marked Intermediate = to Collect SequenceIntermediate
sequence_row state marked Digit = to AddDigit SequenceParameters
sequence_row state marked Separator = to Separate SequenceParameters
sequence_row state marked Marker = marked
sequence_row state marked Final = to HandOutSequence Ground
sequence_row state marked class = controls state class

abbrev pub sequence_intermediate_row : ByteClass → Transition
sequence_intermediate_row Intermediate = to Collect SequenceIntermediate
sequence_intermediate_row Digit = to Ignore SequenceIgnore
sequence_intermediate_row Separator = to Ignore SequenceIgnore
sequence_intermediate_row Marker = to Ignore SequenceIgnore
sequence_intermediate_row Final = to HandOutSequence Ground
sequence_intermediate_row class = controls SequenceIntermediate class

abbrev pub sequence_ignore_row : ByteClass → Transition
sequence_ignore_row Final = to Ignore Ground
sequence_ignore_row class = controls SequenceIgnore class

-- ---- device control strings (ECMA-48, 5.6): the front is as a control sequence, and its final byte starts the body

abbrev pub device_row : State → Transition → ByteClass → Transition
device_row state marked Intermediate = to Collect DeviceIntermediate
device_row state marked Digit = to AddDigit DeviceParameters
device_row state marked Separator = to Separate DeviceParameters
device_row state marked Marker = marked
device_row state marked Final = to Name StringBody
device_row state marked class = string_controls state class

abbrev pub device_intermediate_row : ByteClass → Transition
device_intermediate_row Intermediate = to Collect DeviceIntermediate
device_intermediate_row Digit = to Ignore DeviceIgnore
device_intermediate_row Separator = to Ignore DeviceIgnore
device_intermediate_row Marker = to Ignore DeviceIgnore
device_intermediate_row Final = to Name StringBody
device_intermediate_row class = string_controls DeviceIntermediate class

-- ---- operating system commands: a number, then text; BEL ends one too (xterm, "Operating System Commands")

abbrev pub system_row : ByteClass → Transition
system_row Bell = to End Ground
system_row Digit = to AddDigit SystemNumber
system_row Separator = to Ignore SystemBody
system_row Intermediate = to NameSystem SystemBody
system_row Marker = to NameSystem SystemBody
system_row Final = to NameSystem SystemBody
system_row class = string_controls SystemNumber class

-- `ESC ] P` takes seven hexadecimal digits, and carries C0 out (console_codes(4))
abbrev pub palette_row : ByteClass → Transition
palette_row Control = to Execute Palette
palette_row Bell = to Execute Palette
palette_row Cancel = to Abort Ground
palette_row Escape = to End AfterCut
palette_row Delete = to Ignore Palette
palette_row class = to AddHex Palette

-- ---- other strings: the first character of SOS, PM and APC (ECMA-48, 5.6) and of a title (screen(1), `ESC k`)

abbrev pub start_row : ByteClass → Transition
start_row Control = to Ignore StringStart
start_row Bell = to Ignore StringStart
start_row Cancel = to Abort Ground
start_row Escape = to End AfterCut
start_row Delete = to Ignore StringStart
start_row class = to Name StringBody

-- ---- bodies: whether a `?` is in one makes it a request (xterm, "Operating System Commands")

abbrev pub body_row : State → ByteClass → Transition
body_row state Marker = to Put state
body_row state class = string_controls state class

abbrev pub system_body_row : ByteClass → Transition
system_body_row Bell = to End Ground
system_body_row class = body_row SystemBody class

unfoldable pub transition_of : State → ByteClass → Transition
transition_of Ground class = controls Ground class
transition_of AfterEscape class = escape_row AfterEscape class
transition_of AfterCut class = escape_row AfterCut class
transition_of EscapeIntermediate class = escape_intermediate_row class
transition_of SequenceEntry class = sequence_row SequenceEntry (to Mark SequenceParameters) class
transition_of SequenceParameters class = sequence_row SequenceParameters (to Ignore SequenceIgnore) class
transition_of SequenceIntermediate class = sequence_intermediate_row class
transition_of SequenceIgnore class = sequence_ignore_row class
transition_of DeviceEntry class = device_row DeviceEntry (to Mark DeviceParameters) class
transition_of DeviceParameters class = device_row DeviceParameters (to Ignore DeviceIgnore) class
transition_of DeviceIntermediate class = device_intermediate_row class
transition_of DeviceIgnore class = string_controls DeviceIgnore class
transition_of SystemNumber class = system_row class
transition_of Palette class = palette_row class
transition_of StringStart class = start_row class
transition_of SystemBody class = system_body_row class
transition_of StringBody class = body_row StringBody class
