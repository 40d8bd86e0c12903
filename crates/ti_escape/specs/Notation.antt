-- How terminfo(5) writes the bytes of a text.
use Rattle.std.specs.Prelude.{◌+◌, ◌/◌, ◌%◌, ◌&&◌, ◌||◌, ◌==◌, ℕ, zero, suc, Bool, List, [], ◌∷◌, ◌++◌, codes, length, take, nat_le, nat_lt, if◌then◌else◌}
use Rattle.std.specs.Str.{bytes_eq}
use Rattle.ti_base.specs.Letters.{letter}

-- ---- a byte, given the byte before it

-- `\`, `^` and `,` mean something in the notation itself
abbrev pub has_meaning : ℕ → Bool
has_meaning byte =
    byte == letter (codes "\\") || byte == letter (codes "^") || byte == letter (codes ",")

abbrev pub octal_digit : ℕ → ℕ
octal_digit n = letter (codes "0") + n

-- `\` and the three octal digits of a byte
abbrev pub octal : ℕ → List ℕ
octal byte =
    letter (codes "\\") ∷ octal_digit (byte / 64 % 8) ∷ octal_digit (byte / 8 % 8)
    ∷ octal_digit (byte % 8) ∷ []

-- a `^` means neither 0 nor a byte from 128, and right after a `%` it is the operator `%^`
abbrev pub has_no_caret : ℕ → ℕ → Bool
has_no_caret before byte = byte == 0 || nat_lt 127 byte || before == letter (codes "%")

-- a byte within a text; 27 is ESC, 127 is DEL, and from 32 to 126 are the printable characters
abbrev pub byte_notation : ℕ → ℕ → List ℕ
byte_notation before byte =
    if byte == 27 then codes "\\E"
    else if has_meaning byte then codes "\\" ++ byte ∷ []
    else if nat_le 32 byte && nat_lt byte 127 then byte ∷ []
    else if has_no_caret before byte then octal byte
    else if byte == 127 then codes "^?"
    else codes "^" ++ (byte + 64) ∷ []

-- a byte at an end of a text, at which a space would be lost
abbrev pub end_notation : ℕ → ℕ → List ℕ
end_notation before byte =
    if byte == letter (codes " ") then codes "\\s" else byte_notation before byte

-- ---- bytes

-- bytes that are all written in one way, given the byte before them
abbrev pub each_notation : (ℕ → ℕ → List ℕ) → ℕ → List ℕ → List ℕ
each_notation notation_of before [] = []
each_notation notation_of before (byte ∷ rest) =
    notation_of before byte ++ each_notation notation_of byte rest

-- ---- a text

-- the texts that would look like what a listing writes in place of a text
abbrev pub looks_like_a_word : List ℕ → Bool
looks_like_a_word text = bytes_eq text (codes "-") || bytes_eq text (codes "cancelled")

-- the bytes after the first, up to the other end
abbrev pub later_notation : ℕ → List ℕ → List ℕ
later_notation before [] = []
later_notation before (byte ∷ []) = end_notation before byte
later_notation before (byte ∷ next ∷ rest) =
    byte_notation before byte ++ later_notation byte (next ∷ rest)

-- the first byte; a 0 before it means that there is none
abbrev pub first_notation : ℕ → List ℕ → List ℕ
first_notation byte rest =
    if looks_like_a_word (byte ∷ rest) then octal byte else end_notation 0 byte

abbrev pub notation : List ℕ → List ℕ
notation [] = []
notation (byte ∷ rest) = first_notation byte rest ++ later_notation byte rest

-- ---- where it stands

-- the notation of the bytes before a place, as they are written in the text
abbrev pub notation_before : List ℕ → ℕ → List ℕ
notation_before [] place = []
notation_before (byte ∷ rest) zero = []
notation_before (byte ∷ rest) (suc place) =
    if nat_lt place (length rest) then first_notation byte rest ++ each_notation byte_notation byte (take place rest)
    else notation (byte ∷ rest)

-- how many characters stand before that of the byte at a place
abbrev pub column : List ℕ → ℕ → ℕ
column text place = length (notation_before text place)

-- ---- a name

-- a name in a field between spaces: each byte is written as at an end of a text
abbrev pub label_notation : List ℕ → List ℕ
label_notation name = each_notation end_notation 0 name
