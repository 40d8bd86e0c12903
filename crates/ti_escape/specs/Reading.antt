-- How terminfo(5) reads the notation of a text.
use Rattle.std.specs.Prelude.{◌≡◌, ◌+◌, ◌-◌, ◌*◌, ◌%◌, ◌&&◌, ◌==◌, ℕ, zero, suc, Bool, not, false, List, [], ◌∷◌, ◌++◌, codes, drop, find, fold, length, Option, Some, None, option_map, unwrap_or, nat_le, nat_lt, if◌then◌else◌, Result, Ok, Err}
use Rattle.ti_base.specs.Letters.{letter}
use Rattle.ti_escape.specs.declared.reading.Meant.{Meant}
use Rattle.ti_escape.specs.declared.reading.NotationFault.{NotationFault}
use Rattle.ti_escape.specs.declared.reading.NotationFault.TheVariants.{CutShort, BadControl}
use Rattle.ti_escape.specs.declared.reading.NotationRefused.{NotationRefused}
use Rattle.ti_escape.specs.declared.reading.ReadingFault.{ReadingFault}
use Rattle.ti_escape.specs.declared.reading.ReadingFault.TheVariants as fault

abbrev pub is_percent : ℕ → Bool
is_percent char = char == letter (codes "%")

-- ---- after a `\`

abbrev pub is_octal_digit : ℕ → Bool
is_octal_digit char = nat_le (letter (codes "0")) char && nat_le char (letter (codes "7"))

-- the value of an octal digit, if one is at the front
abbrev pub first_octal_digit : List ℕ → Option ℕ
first_octal_digit [] = None
first_octal_digit (char ∷ rest) = if is_octal_digit char then Some (char - letter (codes "0")) else None

-- a digit before those after it, or no digit
abbrev pub digit_before : Option ℕ → List ℕ → List ℕ
digit_before None digits = []
digit_before (Some digit) digits = digit ∷ digits

-- the values of the octal digits at the front, at most so many
abbrev pub octal_digits : ℕ → List ℕ → List ℕ
octal_digits zero text = []
octal_digits (suc most) text = digit_before (first_octal_digit text) (octal_digits most (drop 1 text))

-- the number that they write
abbrev pub octal_number : List ℕ → ℕ
octal_number digits = fold (λ number digit. 8 * number + digit) 0 digits

-- three digits can be more than a byte, which keeps the lowest eight bits
abbrev pub octal_meant : List ℕ → Option Meant
octal_meant [] = None
octal_meant (digit ∷ digits) =
    Some (record { byte = octal_number (digit ∷ digits) % 256; more = length (digit ∷ digits); percent = false })

-- the letters that mean a byte, each with the byte
abbrev pub letters : List (ℕ × ℕ)
letters =
    (letter (codes "E"), 27) ∷ (letter (codes "e"), 27) ∷ (letter (codes "n"), 10)
    ∷ (letter (codes "l"), 10) ∷ (letter (codes "r"), 13) ∷ (letter (codes "t"), 9)
    ∷ (letter (codes "b"), 8) ∷ (letter (codes "f"), 12) ∷ (letter (codes "s"), 32)
    ∷ (letter (codes "a"), 7) ∷ []

-- any other character means itself
abbrev pub letter_meaning : ℕ → ℕ
letter_meaning char =
    unwrap_or (option_map (λ pair. pair.1) (find (λ pair. pair.0 == char) letters)) char

abbrev pub lone_character : List ℕ → Result Meant NotationFault
lone_character [] = Err CutShort
lone_character (char ∷ rest) = Ok (record { byte = letter_meaning char; more = 1; percent = is_percent char })

abbrev pub octal_or_character : Option Meant → List ℕ → Result Meant NotationFault
octal_or_character (Some octal) rest = Ok octal
octal_or_character None rest = lone_character rest

-- one to three octal digits, or else one character
abbrev pub after_backslash : List ℕ → Result Meant NotationFault
after_backslash rest = octal_or_character (octal_meant (octal_digits 3 rest)) rest

-- ---- after a `^`

abbrev pub control_byte : ℕ → ℕ
control_byte char = if char == letter (codes "?") then 127 else char % 32

-- a printable character, a space among them
abbrev pub after_caret : List ℕ → Result Meant NotationFault
after_caret [] = Err CutShort
after_caret (char ∷ rest) =
    if nat_le 32 char && nat_lt char 127
    then Ok (record { byte = control_byte char; more = 1; percent = false })
    else Err BadControl

-- ---- a text

-- what the first character means with those after it; a `^` right after a `%` is the character itself
abbrev pub meant_at : Bool → List ℕ → Result Meant NotationFault
meant_at after_percent [] = Err CutShort
meant_at after_percent (char ∷ rest) =
    if char == letter (codes "\\") then after_backslash rest
    else if char == letter (codes "^") && not after_percent then after_caret rest
    else Ok (record { byte = char; more = 0; percent = is_percent char })

-- the bytes, or the first fault and how many characters are left there
abbrev pub Read : Type 0
Read = Result (List ℕ) (NotationFault × ℕ)

abbrev pub with_bytes : List ℕ → Read → Read
with_bytes first (Ok bytes) = Ok (first ++ bytes)
with_bytes first (Err refused) = Err refused

abbrev pub one_read : ℕ → Result Meant NotationFault → (Bool → ℕ → Read) → Read
one_read left (Ok m) next = with_bytes (m.byte ∷ []) (next m.percent m.more)
one_read left (Err fault) next = Err (fault, left)

-- the text after the first `skip` characters, which were read with one before them
unfoldable pub read_from : Bool → ℕ → List ℕ → Read
read_from after_percent skip [] = Ok []
read_from after_percent (suc skip) (char ∷ rest) = read_from after_percent skip rest
read_from after_percent zero (char ∷ rest) =
    one_read (length (char ∷ rest)) (meant_at after_percent (char ∷ rest))
    (λ after skip. read_from after skip rest)

abbrev pub placed : ℕ → Read → Result (List ℕ) NotationRefused
placed size (Ok bytes) = Ok bytes
placed size (Err (fault, left)) = Err (record { fault = fault; place = size - left })

-- the bytes that a notation means, or its first fault
abbrev pub reading : List ℕ → Result (List ℕ) NotationRefused
reading text = placed (length text) (read_from false 0 text)

-- out of memory says nothing of the characters
abbrev pub IsReadingFault : List ℕ → ReadingFault → Type 0
IsReadingFault text (fault.Refused refused) = reading text ≡ Err refused
IsReadingFault text fault.Memory = Unit {0}
