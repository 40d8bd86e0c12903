-- The parser: what one byte does, and a string of bytes. It is P. Williams' machine, with the table of `Transitions`.
use Rattle.std.specs.Prelude.{ℕ, ◌==◌, ◌-◌, ◌++◌, ◌&&◌, ◌||◌, Bool, false, not, List, [], ◌∷◌, codes, length, nat_le, Option, Some, None, if◌then◌else◌, true, nat_lt}
use Rattle.ti_base.specs.Letters.{letter}
use Rattle.ti_parser.specs.Characters.{decoded}
use Rattle.ti_parser.specs.Classes.{class_of}
use Rattle.ti_parser.specs.Functions.{blank, control, escape, finished, functions_of, nothing, only, pushed, with_intermediate}
use Rattle.ti_parser.specs.States.{is_fresh, is_header, is_string}
use Rattle.ti_parser.specs.Transitions.{transition_of}
use Rattle.ti_parser.specs.declared.character.Begun.TheVariants.{Nothing}
use Rattle.ti_parser.specs.declared.character.Decoded.{Decoded}
use Rattle.ti_parser.specs.declared.character.Symbol.{Symbol}
use Rattle.ti_parser.specs.declared.character.Symbol.TheVariants.{Unfinished, Character, Plain, Upper}
use Rattle.ti_parser.specs.declared.configuration.Configuration.{Configuration}
use Rattle.ti_parser.specs.declared.function.Function.{Function}
use Rattle.ti_parser.specs.declared.function.FunctionKind.{FunctionKind}
use Rattle.ti_parser.specs.declared.function.FunctionKind.TheVariants.{Sequence, Device, System, Start, Privacy, Application, Title}
use Rattle.ti_parser.specs.declared.function.HandedOut.{HandedOut}
use Rattle.ti_parser.specs.declared.number.FunctionNumber.TheVariants.{Absent, Known}
use Rattle.ti_parser.specs.declared.reading.Reading.{Reading}
use Rattle.ti_parser.specs.declared.reading.Within.{Within}
use Rattle.ti_parser.specs.declared.reading.Within.TheVariants.{StartsAnew, GoesOn}
use Rattle.ti_parser.specs.declared.state.State.{State}
use Rattle.ti_parser.specs.declared.state.State.TheVariants.{Ground, SequenceEntry, DeviceEntry, SystemNumber, SystemBody, Palette, StringStart, StringBody}
use Rattle.ti_parser.specs.declared.transition.ParserAction.{ParserAction}
use Rattle.ti_parser.specs.declared.transition.ParserAction.TheVariants.{Ignore, Execute, End, Abort, Collect, HandOutEscape, Introduce, AddDigit, Separate, Mark, HandOutSequence, Name, NameSystem, Put, AddHex}
use Rattle.ti_parser.specs.declared.transition.Transition.{Transition}
use Rattle.ti_parser.specs.Numbers.{hex_value, is_absent, is_hex, with_digit}

-- the configuration after a byte, and what the byte hands out
pub record Step : Type 0 where
  pub configuration : Configuration
  pub output : HandedOut

-- before any byte
abbrev pub ground : Configuration
ground = record { state = Ground; begun = Nothing; underway = blank; number = Absent }

-- a state in which no function is kept forgets the last one
abbrev pub entered : State → Configuration → Configuration
entered next c =
    if is_fresh next then record c { state = next; underway = blank; number = Absent } else record c { state = next }

-- text changes no more than that no character is begun
abbrev pub after_text : Configuration → Configuration
after_text c = entered c.state (record c { begun = Nothing })

abbrev pub quiet : Configuration → Step
quiet c = record { configuration = c; output = nothing }

abbrev pub gives : Configuration → Function → Step
gives c function = record { configuration = c; output = only function }

-- the function that is underway, with its last number
abbrev pub complete : Configuration → Function
complete c = finished c.number c.underway

-- ---- what each action does

abbrev pub collected : ℕ → Configuration → Configuration
collected byte c =
    record c { underway = record c.underway { intermediates = with_intermediate c.underway.intermediates byte } }

abbrev pub separated : Configuration → Configuration
separated c = record c { underway = pushed c.number c.underway; number = Absent }

abbrev pub marked : ℕ → Configuration → Configuration
marked byte c = record c { underway = record c.underway { marker = Some byte } }

abbrev pub is_query : ℕ → Bool
is_query byte = byte == letter (codes "?")

abbrev pub named : ℕ → Configuration → Configuration
named byte c = record c { underway = record c.underway { letter = Some byte; asks = is_query byte } }

abbrev pub put : ℕ → Configuration → Configuration
put byte c = record c { underway = record c.underway { asks = c.underway.asks || is_query byte } }

abbrev pub opened : FunctionKind → State → Configuration → Step
opened kind next c = quiet (entered next (record c { underway = record c.underway { kind = kind } }))

-- what an introducer starts, and its first state
pub record Opening : Type 0 where
  pub kind : FunctionKind
  pub state : State

abbrev pub opening : FunctionKind → State → Option Opening
opening kind state = Some (record { kind = kind; state = state })

-- the byte after an escape may be an introducer (ECMA-48, 5.4 and 5.6; screen(1) for `k`)
abbrev pub opening_of : ℕ → Option Opening
opening_of byte =
    if byte == letter (codes "[") then opening Sequence SequenceEntry
    else if byte == letter (codes "]") then opening System SystemNumber
    else if byte == letter (codes "P") then opening Device DeviceEntry
    else if byte == letter (codes "X") then opening Start StringStart
    else if byte == letter (codes "^") then opening Privacy StringStart
    else if byte == letter (codes "_") then opening Application StringStart
    else if byte == letter (codes "k") then opening Title StringStart
    else None

abbrev pub introduced_by : Option Opening → ℕ → Configuration → Step
introduced_by (Some found) byte c = opened found.kind found.state c
introduced_by None byte c = gives (entered Ground c) (escape byte c.underway)

unfoldable pub introduced : ℕ → Configuration → Step
introduced byte c = introduced_by (opening_of byte) byte c

-- `ESC ] R` is complete on the Linux console, and `ESC ] P` takes digits (console_codes(4))
abbrev pub system_named : State → ℕ → Configuration → Step
system_named next byte c =
    if is_absent c.number && byte == letter (codes "R") then gives (entered Ground c) (named byte c).underway
    else if is_absent c.number && byte == letter (codes "P") then quiet (entered Palette (named byte c))
    else quiet (entered next (named byte c))

abbrev pub hexed : ℕ → Configuration → Configuration
hexed byte c = record c { underway = complete c; number = Known (hex_value byte) }

-- seven digits are a color; another byte ends it without effect
abbrev pub added_hex : State → ℕ → Configuration → Step
added_hex next byte c =
    if not (is_hex byte) then quiet (entered Ground c)
    else if length (hexed byte c).underway.numbers == 6 then gives (entered Ground c) (complete (hexed byte c))
    else quiet (entered next (hexed byte c))

unfoldable pub act : ParserAction → State → ℕ → Configuration → Step
act Ignore next byte c = quiet (entered next c)
act Execute next byte c = gives (entered next c) (control byte)
act End next byte c = record { configuration = entered next c; output = record { ended = Some (complete c); function = None } }
act Abort next byte c =
    record { configuration = entered next c; output = record { ended = Some (complete c); function = Some (control byte) } }
act Collect next byte c = quiet (entered next (collected byte c))
act HandOutEscape next byte c = gives (entered next c) (escape byte c.underway)
act Introduce next byte c = introduced byte c
act AddDigit next byte c = quiet (entered next (record c { number = with_digit c.number (byte - 0x30) }))
act Separate next byte c = quiet (entered next (separated c))
act Mark next byte c = quiet (entered next (marked byte c))
act HandOutSequence next byte c = gives (entered next c) (record (complete c) { letter = Some byte })
act Name next byte c = quiet (entered next (named byte c))
act NameSystem next byte c = system_named next byte c
act Put next byte c = quiet (entered next (put byte c))
act AddHex next byte c = added_hex next byte c

-- ---- what each symbol does

abbrev pub moved : Transition → ℕ → Configuration → Step
moved transition byte c = act transition.action transition.next byte c

unfoldable pub plain : ℕ → Configuration → Step
plain byte c = moved (transition_of c.state (class_of byte)) byte c

-- a character beyond ASCII is text, or starts the body of a string, or stands in a sequence, which goes on
abbrev pub next_by_character : State → State
next_by_character SystemNumber = SystemBody
next_by_character StringStart = StringBody
next_by_character Palette = Ground
next_by_character state = state

abbrev pub with_character : Configuration → Step
with_character c = quiet (entered (next_by_character c.state) c)

-- a control of C1 is an escape and a byte (ECMA-48, 5.3)
abbrev pub joined : Step → Step → Step
joined cut new = record {
  configuration = new.configuration;
  output = record { ended = cut.output.ended; function = new.output.function };
}

unfoldable pub anew : ℕ → Configuration → Step
anew byte c = joined (plain 0x1b c) (introduced byte (plain 0x1b c).configuration)

-- DCS, SOS, CSI, ST, OSC, PM and APC start anew within a sequence, and ST ends a string
abbrev pub is_introducer : ℕ → Bool
is_introducer byte = byte == letter (codes "P") || byte == letter (codes "X") || nat_le (letter (codes "[")) byte

abbrev pub goes_on : Within → ℕ → State → Bool
goes_on StartsAnew byte state = false
goes_on GoesOn byte Ground = false
goes_on GoesOn byte state = if is_string state then not (byte == 0x5c) else not (is_introducer byte)

-- a control of C0 that a string ignores is carried out too, as after `ESC k` on xterm, and in any string by libvterm
abbrev pub is_ignored : ParserAction → Bool
is_ignored Ignore = true
is_ignored action = false

abbrev pub is_swallowed : Within → ℕ → State → Bool
is_swallowed StartsAnew byte state = false
is_swallowed GoesOn byte state =
    is_string state && (nat_lt byte 0x20 && is_ignored (transition_of state (class_of byte)).action)

unfoldable pub taken : Within → Symbol → Configuration → Step
taken within Unfinished c = quiet c
taken within Character c = with_character c
taken within (Plain byte) c = if is_swallowed within byte c.state then gives c (control byte) else plain byte c
taken within (Upper byte) c = if goes_on within byte c.state then gives c (escape byte blank) else anew byte c

-- ---- one byte, and a string of bytes

abbrev pub read : Reading → Configuration → ℕ → Decoded
read reading c byte = decoded reading.coding c.begun (is_header c.state) byte

unfoldable pub step : Reading → Configuration → ℕ → Step
step reading c byte =
    taken reading.within (read reading c byte).symbol (record c { begun = (read reading c byte).begun })

pub record Run : Type 0 where
  pub configuration : Configuration
  pub functions : List Function

abbrev pub then_run : Step → Run → Run
then_run first rest =
    record { configuration = rest.configuration; functions = functions_of first.output ++ rest.functions }

unfoldable pub run : Reading → Configuration → List ℕ → Run
run reading c [] = record { configuration = c; functions = [] }
run reading c (byte ∷ bytes) = then_run (step reading c byte) (run reading (step reading c byte).configuration bytes)
