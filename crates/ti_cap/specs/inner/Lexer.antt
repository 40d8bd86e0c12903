-- The lexer on lists: the token at the front of some bytes and how many bytes spell it, or why there is none.
use Rattle.std.specs.Prelude.{ℕ, ◌+◌, ◌-◌, pos, List, [], ◌∷◌, length, map, Result, Ok, Err, Option, Some, None, is_some, Bool, nat_eq, nat_le, nat_lt, ◌&&◌, ◌||◌, if◌then◌else◌, codes}
use Rattle.ti_base.specs.Letters.{letter}
use Rattle.ti_base.specs.Limits.{greatest_width, greatest_constant}
use Rattle.ti_cap.specs.declared.language.Token.{Token}
use Rattle.ti_cap.specs.declared.language.Token.TheVariants.{Byte, Param, Constant, Store, Load, Length, Compute, Increment, Char, Print, CondOpen, CondThen, CondElse, CondClose}
use Rattle.ti_cap.specs.declared.language.Op.{Op}
use Rattle.ti_cap.specs.declared.language.Op.TheVariants.{Add, Sub, Mul, Div, Rem, BitAnd, BitOr, BitXor, Equal, Greater, Less, And, Or, Not, BitNot}
use Rattle.ti_cap.specs.declared.language.Format.{Format}
use Rattle.ti_cap.specs.declared.language.Conversion.{Conversion}
use Rattle.ti_cap.specs.declared.language.Conversion.TheVariants.{Signed, Octal, LowerHex, UpperHex, Text}
use Rattle.ti_cap.specs.declared.language.CapFault.{CapFault}
use Rattle.ti_cap.specs.declared.language.CapFault.TheVariants.{CutShort, UnknownEscape, BadParameter, BadVariable, BadConstant, BadFormat}
use Rattle.ti_cap.specs.Refusal.{opens_format}
use Rattle.ti_cap.specs.Spelling.{op_letter, conversion_letter, with_digit, number_of, has}

abbrev pub Lexeme : Type 0
Lexeme = Result (Token × ℕ) CapFault

-- what `make` makes of what was read: a token, and how many bytes spell it
abbrev pub read_as : {X : Type 0} → (X → Token × ℕ) → Result X CapFault → Lexeme
read_as make (Ok x) = Ok (make x)
read_as make (Err fault) = Err fault

-- the first of these that has the letter
abbrev pub with_letter : {X : Type 0} → (X → ℕ) → List X → ℕ → Option X
with_letter letter [] c = None
with_letter letter (x ∷ xs) c = if nat_eq c (letter x) then Some x else with_letter letter xs c

abbrev pub parameter_read : List ℕ → Lexeme
parameter_read [] = Err CutShort
parameter_read (d ∷ ds) = if nat_le (letter (codes "1")) d && nat_le d (letter (codes "9")) then Ok (Param (d - letter (codes "0")), 3) else Err BadParameter

abbrev pub is_letter : ℕ → Bool
is_letter c = (nat_le (letter (codes "A")) c && nat_le c (letter (codes "Z"))) || (nat_le (letter (codes "a")) c && nat_le c (letter (codes "z")))

abbrev pub variable_of : List ℕ → Result ℕ CapFault
variable_of [] = Err CutShort
variable_of (v ∷ vs) = if is_letter v then Ok v else Err BadVariable

-- what `make` makes of the variable
abbrev pub variable_read : (ℕ → Token) → Result ℕ CapFault → Lexeme
variable_read make (Ok v) = Ok (make v, 3)
variable_read make (Err fault) = Err fault

abbrev pub quoted_read : List ℕ → Lexeme
quoted_read [] = Err CutShort
quoted_read (n ∷ []) = Err CutShort
quoted_read (n ∷ q ∷ rest) = if nat_eq q (letter (codes "'")) then Ok (Constant (pos n), 4) else Err BadConstant

abbrev pub is_digit : ℕ → Bool
is_digit c = nat_le (letter (codes "0")) c && nat_le c (letter (codes "9"))

-- after `i` digits that stand for `n`
unfoldable pub digits_read : ℕ → ℕ → List ℕ → Lexeme
digits_read n i [] = Err CutShort
digits_read n i (c ∷ cs) =
    if is_digit c
    then (if nat_le (with_digit n c) greatest_constant then digits_read (with_digit n c) (i + 1) cs else Err BadConstant)
    else (if nat_eq c (letter (codes "}")) && nat_lt 0 i then Ok (Constant (pos n), i + 3) else Err BadConstant)

-- the front that passes a test
abbrev pub front : (ℕ → Bool) → List ℕ → List ℕ
front p [] = []
front p (x ∷ xs) = if p x then x ∷ front p xs else []

-- what stands after that front
abbrev pub rest : (ℕ → Bool) → List ℕ → List ℕ
rest p [] = []
rest p (x ∷ xs) = if p x then rest p xs else x ∷ xs

abbrev pub is_plain_flag : ℕ → Bool
is_plain_flag c = nat_eq c (letter (codes "#")) || (nat_eq c (letter (codes " ")) || nat_eq c (letter (codes "0")))

abbrev pub is_flag : ℕ → Bool
is_flag c = nat_eq c (letter (codes "-")) || (nat_eq c (letter (codes "+")) || is_plain_flag c)

abbrev pub is_colon : ℕ → Bool
is_colon c = nat_eq c (letter (codes ":"))

abbrev pub conversions : List Conversion
conversions = Signed ∷ Octal ∷ LowerHex ∷ UpperHex ∷ Text ∷ []

abbrev pub conversion_of : ℕ → Option Conversion
conversion_of c = with_letter conversion_letter conversions c

-- a format may begin with one of these, or with its conversion
abbrev pub begins_format : ℕ → Bool
begins_format c = opens_format c || is_some (conversion_of c)

-- no width and no precision yet
abbrev pub with_flags : List ℕ → Format
with_flags flags = record { conversion = Signed; left = has (letter (codes "-")) flags; plus = has (letter (codes "+")) flags; space = has (letter (codes " ")) flags; alternate = has (letter (codes "#")) flags; zero = has (letter (codes "0")) flags; width = 0; precision = None }

-- a conversion alone
abbrev pub plain_format : Conversion → Format
plain_format c = record (with_flags []) { conversion = c }

-- The format so far, and how many bytes have spelled it, stand before what is left to read.
abbrev pub with_conversion : Format → ℕ → Option Conversion → Lexeme
with_conversion f n None = Err BadFormat
with_conversion f n (Some c) = Ok (Print (record f { conversion = c }), n)

abbrev pub letter_read : Format → ℕ → List ℕ → Lexeme
letter_read f n [] = Err CutShort
letter_read f n (c ∷ cs) = with_conversion f (n + 1) (conversion_of c)

abbrev pub precision_read : Format → ℕ → List ℕ → Lexeme
precision_read f n [] = Err CutShort
precision_read f n (c ∷ cs) =
    if nat_eq c (letter (codes "."))
    then (if nat_lt greatest_width (number_of (front is_digit cs)) then Err BadFormat
    else letter_read (record f { precision = Some (number_of (front is_digit cs)) }) (n + 1 + length (front is_digit cs)) (rest is_digit cs))
    else letter_read f n (c ∷ cs)

abbrev pub width_read : Format → ℕ → List ℕ → Lexeme
width_read f n bytes =
    if nat_lt greatest_width (number_of (front is_digit bytes)) then Err BadFormat
    else precision_read (record f { width = number_of (front is_digit bytes) }) (n + length (front is_digit bytes)) (rest is_digit bytes)

unfoldable pub format_read : List ℕ → Lexeme
format_read [] = Err CutShort
format_read (c ∷ cs) =
    if is_colon c then width_read (with_flags (front is_flag cs)) (2 + length (front is_flag cs)) (rest is_flag cs)
    else width_read (with_flags (front is_plain_flag (c ∷ cs))) (1 + length (front is_plain_flag (c ∷ cs))) (rest is_plain_flag (c ∷ cs))

-- a format, where one may begin
abbrev pub print_read : List ℕ → Lexeme
print_read [] = Err CutShort
print_read (c ∷ cs) = if begins_format c then format_read (c ∷ cs) else Err UnknownEscape

-- the byte after the `%` of a token that one byte spells there
abbrev pub lone_letter : Token → ℕ
lone_letter Length = letter (codes "l")
lone_letter Increment = letter (codes "i")
lone_letter Char = letter (codes "c")
lone_letter CondOpen = letter (codes "?")
lone_letter CondThen = letter (codes "t")
lone_letter CondElse = letter (codes "e")
lone_letter CondClose = letter (codes ";")
lone_letter (Compute op) = op_letter op
lone_letter _ = letter (codes "%")

abbrev pub ops : List Op
ops = Add ∷ Sub ∷ Mul ∷ Div ∷ Rem ∷ BitAnd ∷ BitOr ∷ BitXor ∷ Equal ∷ Greater ∷ Less ∷ And ∷ Or ∷ Not ∷ BitNot ∷ []

-- the tokens that one byte spells after the `%`
abbrev pub lone_tokens : List Token
lone_tokens = Byte (letter (codes "%")) ∷ Length ∷ Increment ∷ Char ∷ CondOpen ∷ CondThen ∷ CondElse ∷ CondClose ∷ map (λ op. Compute op) ops

unfoldable pub lone_of : ℕ → Option Token
lone_of c = with_letter lone_letter lone_tokens c

abbrev pub lone_or : Option Token → Lexeme → Lexeme
lone_or (Some token) other = Ok (token, 2)
lone_or None other = other

abbrev pub escape_read : List ℕ → Lexeme
escape_read [] = Err CutShort
escape_read (c ∷ cs) =
    if nat_eq c (letter (codes "p")) then parameter_read cs
    else if nat_eq c (letter (codes "P")) then variable_read (λ v. Store v) (variable_of cs)
    else if nat_eq c (letter (codes "g")) then variable_read (λ v. Load v) (variable_of cs)
    else if nat_eq c (letter (codes "'")) then quoted_read cs
    else if nat_eq c (letter (codes "{")) then digits_read 0 0 cs
    else lone_or (lone_of c) (if begins_format c then format_read (c ∷ cs) else Err UnknownEscape)

abbrev pub token_read : List ℕ → Lexeme
token_read [] = Err CutShort
token_read (b ∷ bs) = if nat_eq b (letter (codes "%")) then escape_read bs else Ok (Byte b, 1)
