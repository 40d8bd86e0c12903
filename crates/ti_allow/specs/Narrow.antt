-- Strings that each coding reads alike, and in which no padding mark can come.
use Rattle.std.specs.Prelude.{ℕ, ◌&&◌, not, Bool, true, false, List, nat_lt}
use Rattle.std.specs.List.{list_all}
use Rattle.ti_cap.specs.declared.language.Conversion.{Conversion}
use Rattle.ti_cap.specs.declared.language.Conversion.TheVariants.{Signed}
use Rattle.ti_cap.specs.declared.language.Token.{Token}
use Rattle.ti_cap.specs.declared.language.Token.TheVariants.{Byte, Char, Print}
use Rattle.ti_parser.specs.Padding.{is_dollar}

-- a byte of ASCII that begins no mark
abbrev pub is_narrow : ℕ → Bool
is_narrow byte = nat_lt byte 0x80 && not (is_dollar byte)

abbrev pub is_decimal : Conversion → Bool
is_decimal Signed = true
is_decimal conversion = false

-- a token that writes such bytes alone, whatever it is given
abbrev pub is_narrow_token : Token → Bool
is_narrow_token (Byte byte) = is_narrow byte
is_narrow_token Char = false
is_narrow_token (Print f) = is_decimal f.conversion
is_narrow_token token = true

abbrev pub are_narrow : List Token → Bool
are_narrow tokens = list_all is_narrow_token tokens
