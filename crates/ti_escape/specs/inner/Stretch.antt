-- A text in stretches.
use Rattle.std.specs.Prelude.{◌&&◌, ℕ, Bool, not, List, [], ◌∷◌, ◌++◌, codes, nat_le, nat_lt}
use Rattle.ti_base.specs.Letters.{letter}
use Rattle.ti_escape.specs.Notation.{byte_notation, each_notation, end_notation, has_meaning, octal}
use Rattle.ti_escape.specs.declared.stretch.Span.{Span}
use Rattle.ti_escape.specs.declared.stretch.Space.{Space}
use Rattle.ti_escape.specs.declared.stretch.Space.TheVariants.{Kept, Escaped}
use Rattle.ti_escape.specs.declared.stretch.Stretch.{Stretch}
use Rattle.ti_escape.specs.declared.stretch.Stretch.TheVariants.{Plain, Backslash, Caret, Octal}

-- the notation of a stretch
abbrev pub stretch_notation : Stretch → List ℕ
stretch_notation (Plain bytes) = bytes.now
stretch_notation (Backslash char) = codes "\\" ++ char ∷ []
stretch_notation (Caret char) = codes "^" ++ char ∷ []
stretch_notation (Octal byte) = octal byte

-- how a byte is written, given the byte before it
abbrev pub spaced_notation : Space → ℕ → ℕ → List ℕ
spaced_notation Kept = byte_notation
spaced_notation Escaped = end_notation

-- the least byte that is written as it is
abbrev pub least_plain : Space → ℕ
least_plain Kept = letter (codes " ")
least_plain Escaped = letter (codes "!")

-- the byte is written as it is
abbrev pub is_plain : Space → ℕ → Bool
is_plain space byte =
    nat_le (least_plain space) byte && nat_lt byte 127 && not (has_meaning byte)

-- the notation of bytes that are all written in one way
abbrev pub span_notation : Span → List ℕ
span_notation span = each_notation (spaced_notation span.space) span.before span.bytes.now
