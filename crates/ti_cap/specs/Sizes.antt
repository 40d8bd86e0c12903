-- The most bytes that a token writes.
use Rattle.std.specs.Prelude.{ℕ, ◌+◌, max, min, unwrap_or, if◌then◌else◌}
use Rattle.ti_cap.specs.declared.language.Token.{Token}
use Rattle.ti_cap.specs.declared.language.Token.TheVariants.{Byte, Char, Print}
use Rattle.ti_cap.specs.declared.language.Format.{Format}
use Rattle.ti_cap.specs.declared.language.Conversion.{Conversion}
use Rattle.ti_cap.specs.declared.language.Conversion.TheVariants.{Signed, Octal, LowerHex, UpperHex, Text}

-- the most digits that are written of a number of up to `digits` digits
abbrev pub most_digits : Format → ℕ → ℕ
most_digits f digits = max digits (unwrap_or f.precision 0)

-- the most bytes that the value takes, before the width
abbrev pub printed_text_size : Conversion → Format → ℕ → ℕ
printed_text_size Signed f longest = 1 + most_digits f 10
printed_text_size Octal f longest = most_digits f (if f.alternate then 12 else 11)
printed_text_size LowerHex f longest = (if f.alternate then 2 else 0) + most_digits f 8
printed_text_size UpperHex f longest = (if f.alternate then 2 else 0) + most_digits f 8
printed_text_size Text f longest = min (unwrap_or f.precision longest) longest

abbrev pub format_size : Format → ℕ → ℕ
format_size f longest = max f.width (printed_text_size f.conversion f longest)

-- the most bytes that a token writes if no text is longer than `longest`
abbrev pub token_size : ℕ → Token → ℕ
token_size longest (Byte b) = 1
token_size longest Char = 1
token_size longest (Print f) = format_size f longest
token_size longest _ = 0
