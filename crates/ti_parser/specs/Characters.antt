-- What bytes above 7F are. UTF-8 by the Unicode standard, table 3-7: a byte that does not fit ends a malformed character, and is
-- read by itself. The UTF-8 of a control of C1 is that control (ECMA-35; xterm, "Control Sequences").
use Rattle.std.specs.Prelude.{ℕ, Bool, false, ◌==◌, ◌-◌, ◌&&◌, nat_lt, nat_le, if◌then◌else◌}
use Rattle.ti_parser.specs.declared.character.Begun.{Begun}
use Rattle.ti_parser.specs.declared.character.Begun.TheVariants.{Nothing, Latin, One, Two, Three, AfterE0, AfterEd, AfterF0, AfterF4}
use Rattle.ti_parser.specs.declared.character.Decoded.{Decoded}
use Rattle.ti_parser.specs.declared.character.Symbol.{Symbol}
use Rattle.ti_parser.specs.declared.character.Symbol.TheVariants.{Unfinished, Character, Plain, Upper}
use Rattle.ti_parser.specs.declared.reading.Coding.{Coding}
use Rattle.ti_parser.specs.declared.reading.Coding.TheVariants.{Utf8, Utf8WithC1, Bytes}

abbrev pub is_between : ℕ → ℕ → ℕ → Bool
is_between low high byte = nat_le low byte && nat_le byte high

abbrev pub whole : Symbol → Decoded
whole symbol = record { symbol = symbol; begun = Nothing }

abbrev pub begins : Begun → Decoded
begins begun = record { symbol = Unfinished; begun = begun }

-- the control of C1 of a byte from 80 to 9F
abbrev pub upper : ℕ → Decoded
upper byte = whole (Upper (byte - 0x40))

-- whether a byte goes on with the character
abbrev pub fits : Begun → ℕ → Bool
fits Nothing byte = false
fits AfterE0 byte = is_between 0xa0 0xbf byte
fits AfterEd byte = is_between 0x80 0x9f byte
fits AfterF0 byte = is_between 0x90 0xbf byte
fits AfterF4 byte = is_between 0x80 0x8f byte
fits begun byte = is_between 0x80 0xbf byte

-- the character after a byte that goes on with it
abbrev pub followed : Begun → ℕ → Decoded
followed Latin byte = if nat_lt byte 0xa0 then upper byte else whole Character
followed Two byte = begins One
followed Three byte = begins Two
followed AfterE0 byte = begins One
followed AfterEd byte = begins One
followed AfterF0 byte = begins Two
followed AfterF4 byte = begins Two
followed begun byte = whole Character

-- a byte from C2 to F4
abbrev pub led : ℕ → Begun
led byte =
    if byte == 0xc2 then Latin
    else if nat_lt byte 0xe0 then One
    else if byte == 0xe0 then AfterE0
    else if byte == 0xed then AfterEd
    else if nat_lt byte 0xf0 then Two
    else if byte == 0xf0 then AfterF0
    else if nat_lt byte 0xf4 then Three
    else AfterF4

-- a byte that is no part of a character
abbrev pub stray : Coding → ℕ → Decoded
stray Utf8WithC1 byte = if nat_lt byte 0xa0 then upper byte else whole Character
stray coding byte = whole Character

-- a byte from 80 on, at the start of a character
abbrev pub first : Coding → ℕ → Decoded
first coding byte = if is_between 0xc2 0xf4 byte then begins (led byte) else stray coding byte

abbrev pub utf8_read : Coding → Begun → ℕ → Decoded
utf8_read coding begun byte = if fits begun byte then followed begun byte else first coding byte

-- within a function A0 to FF is 20 to 7F (VT500 manual, "Working with 8-bit characters")
abbrev pub byte_read : Bool → ℕ → Decoded
byte_read within byte =
    if nat_lt byte 0xa0 then upper byte else if within then whole (Plain (byte - 0x80)) else whole Character

abbrev pub upper_read : Coding → Begun → Bool → ℕ → Decoded
upper_read Bytes begun within byte = byte_read within byte
upper_read Utf8 begun within byte = utf8_read Utf8 begun byte
upper_read Utf8WithC1 begun within byte = utf8_read Utf8WithC1 begun byte

unfoldable pub decoded : Coding → Begun → Bool → ℕ → Decoded
decoded coding begun within byte = if nat_lt byte 0x80 then whole (Plain byte) else upper_read coding begun within byte
