-- What bytes and words mean (term(5)).
use Rattle.std.specs.Prelude.{ℕ, zero, suc, ℤ, pos, negsuc, ◌==◌, if◌then◌else◌, Option, Some, None}
use Rattle.ti_words.specs.declared.Flag.{Flag}
use Rattle.ti_words.specs.declared.Flag.TheVariants as flags
use Rattle.ti_words.specs.declared.Number.{Number}
use Rattle.ti_words.specs.declared.Number.TheVariants as numbers

-- the byte of a flag
abbrev pub byte_of_flag : Flag → ℕ
byte_of_flag flags.No = 0
byte_of_flag flags.Yes = 1
byte_of_flag flags.Cancelled = 254
byte_of_flag flags.Missing = 255

-- the flag of a byte, if there is one
abbrev pub flag_of_byte : ℕ → Option Flag
flag_of_byte b =
    if b == 0 then Some flags.No
    else (if b == 1 then Some flags.Yes
    else (if b == 254 then Some flags.Cancelled
    else (if b == 255 then Some flags.Missing else None)))

-- the word of a number
abbrev pub word_of_number : Number → ℤ
word_of_number numbers.Absent = negsuc 0
word_of_number numbers.Cancelled = negsuc 1
word_of_number (numbers.Value x) = x

-- the number of a word, if there is one: the words below -2 have none
abbrev pub number_of_word : ℤ → Option Number
number_of_word (pos n) = Some (numbers.Value (pos n))
number_of_word (negsuc zero) = Some numbers.Absent
number_of_word (negsuc (suc zero)) = Some numbers.Cancelled
number_of_word (negsuc (suc (suc n))) = None

-- a number whose word means it again: a value is not negative
abbrev pub HasWord : Number → Type 0
HasWord numbers.Absent = Unit {0}
HasWord numbers.Cancelled = Unit {0}
HasWord (numbers.Value (pos n)) = Unit {0}
HasWord (numbers.Value (negsuc n)) = ⊥
