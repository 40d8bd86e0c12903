-- Worked examples of reading and of spellings: what stands at the front of the bytes, and how many bytes spell it.
use Rattle.std.proofs.Common.{◌≡◌, ℕ, pos, [], ◌∷◌, refl, inl, inr, true, false, arith, Ok, Err}
use Rattle.std.specs.Prelude.{Option, Some, None, codes}
use Rattle.ti_cap.specs.declared.language.Token.TheVariants.{Byte, Param, Constant, Store, Load, Length, Compute, Increment, Char, Print, CondOpen, CondThen, CondElse, CondClose}
use Rattle.ti_cap.specs.declared.language.Op.TheVariants.{Add, Sub, Mul, Div, Rem, BitAnd, BitOr, BitXor, Equal, Greater, Less, And, Or, Not, BitNot}
use Rattle.ti_cap.specs.declared.language.Format.{Format}
use Rattle.ti_cap.specs.declared.language.Conversion.{Conversion}
use Rattle.ti_cap.specs.declared.language.Conversion.TheVariants.{Signed, Octal, LowerHex, UpperHex, Text}
use Rattle.ti_cap.specs.declared.language.CapFault.TheVariants.{CutShort, UnknownEscape, BadParameter, BadVariable, BadConstant, BadFormat}
use Rattle.ti_cap.specs.Spelling.{Spells}
use Rattle.ti_cap.specs.inner.Lexer.{token_read, digits_read, format_read, lone_of}

-- a format without flags
abbrev plain : Conversion → ℕ → Option ℕ → Format
plain conversion width precision = record { conversion = conversion; left = false; plus = false; space = false; alternate = false; zero = false; width = width; precision = precision }

-- Bytes and escapes of one letter; what follows them changes nothing.
byte : token_read (codes "x%") ≡ Ok (Byte 120, 1)
byte = refl

percent : token_read (codes "%%p1") ≡ Ok (Byte 37, 2)
unfolding lone_of
percent = refl

length_text : token_read (codes "%l") ≡ Ok (Length, 2)
unfolding lone_of
length_text = refl

increment : token_read (codes "%i") ≡ Ok (Increment, 2)
unfolding lone_of
increment = refl

char : token_read (codes "%c") ≡ Ok (Char, 2)
unfolding lone_of
char = refl

-- operations; `+` and `-` are operations, whatever follows
add : token_read (codes "%+") ≡ Ok (Compute Add, 2)
unfolding lone_of
add = refl

sub : token_read (codes "%-") ≡ Ok (Compute Sub, 2)
unfolding lone_of
sub = refl

mul : token_read (codes "%*") ≡ Ok (Compute Mul, 2)
unfolding lone_of
mul = refl

div : token_read (codes "%/") ≡ Ok (Compute Div, 2)
unfolding lone_of
div = refl

rem : token_read (codes "%m") ≡ Ok (Compute Rem, 2)
unfolding lone_of
rem = refl

bit_and : token_read (codes "%&") ≡ Ok (Compute BitAnd, 2)
unfolding lone_of
bit_and = refl

bit_or : token_read (codes "%|") ≡ Ok (Compute BitOr, 2)
unfolding lone_of
bit_or = refl

bit_xor : token_read (codes "%^") ≡ Ok (Compute BitXor, 2)
unfolding lone_of
bit_xor = refl

equal : token_read (codes "%=") ≡ Ok (Compute Equal, 2)
unfolding lone_of
equal = refl

greater : token_read (codes "%>") ≡ Ok (Compute Greater, 2)
unfolding lone_of
greater = refl

less : token_read (codes "%<") ≡ Ok (Compute Less, 2)
unfolding lone_of
less = refl

and : token_read (codes "%A") ≡ Ok (Compute And, 2)
unfolding lone_of
and = refl

or : token_read (codes "%O") ≡ Ok (Compute Or, 2)
unfolding lone_of
or = refl

not : token_read (codes "%!") ≡ Ok (Compute Not, 2)
unfolding lone_of
not = refl

bit_not : token_read (codes "%~") ≡ Ok (Compute BitNot, 2)
unfolding lone_of
bit_not = refl

open_mark : token_read (codes "%?") ≡ Ok (CondOpen, 2)
unfolding lone_of
open_mark = refl

then_mark : token_read (codes "%t") ≡ Ok (CondThen, 2)
unfolding lone_of
then_mark = refl

else_mark : token_read (codes "%e") ≡ Ok (CondElse, 2)
unfolding lone_of
else_mark = refl

close_mark : token_read (codes "%;") ≡ Ok (CondClose, 2)
unfolding lone_of
close_mark = refl

add_digit : token_read (codes "%+d") ≡ Ok (Compute Add, 2)
unfolding lone_of
add_digit = refl

sub_digit : token_read (codes "%-5d") ≡ Ok (Compute Sub, 2)
unfolding lone_of
sub_digit = refl

-- parameters and variables
param : token_read (codes "%p1%d") ≡ Ok (Param 1, 3)
param = refl

param_zero : token_read (codes "%p0") ≡ Err BadParameter
param_zero = refl

param_short : token_read (codes "%p") ≡ Err CutShort
param_short = refl

store : token_read (codes "%PA%gA") ≡ Ok (Store 65, 3)
store = refl

load : token_read (codes "%gz") ≡ Ok (Load 122, 3)
load = refl

store_digit : token_read (codes "%P1") ≡ Err BadVariable
store_digit = refl

load_digit : token_read (codes "%g1") ≡ Err BadVariable
load_digit = refl

load_short : token_read (codes "%g") ≡ Err CutShort
load_short = refl

-- constants
quoted : token_read (codes "%'''%d") ≡ Ok (Constant (pos 39), 4)
quoted = refl

quoted_none : token_read (codes "%''%d") ≡ Err BadConstant
quoted_none = refl

quoted_long : token_read (codes "%'ab") ≡ Err BadConstant
quoted_long = refl

quoted_short : token_read (codes "%'a") ≡ Err CutShort
quoted_short = refl

braced : token_read (codes "%{2147483647}") ≡ Ok (Constant (pos 2147483647), 13)
unfolding digits_read
braced = refl

braced_zeros : token_read (codes "%{065}%d") ≡ Ok (Constant (pos 65), 6)
unfolding digits_read
braced_zeros = refl

braced_large : token_read (codes "%{2147483648}") ≡ Err BadConstant
unfolding digits_read
braced_large = refl

braced_large_short : token_read (codes "%{2147483648") ≡ Err BadConstant
unfolding digits_read
braced_large_short = refl

braced_none : token_read (codes "%{}") ≡ Err BadConstant
unfolding digits_read
braced_none = refl

braced_short : token_read (codes "%{12") ≡ Err CutShort
unfolding digits_read
braced_short = refl

braced_negative : token_read (codes "%{-1}") ≡ Err BadConstant
unfolding digits_read
braced_negative = refl

-- formats
decimal : token_read (codes "%dG") ≡ Ok (Print (plain Signed 0 None), 2)
unfolding format_read lone_of
decimal = refl

octal : token_read (codes "%o") ≡ Ok (Print (plain Octal 0 None), 2)
unfolding format_read lone_of
octal = refl

hexadecimal : token_read (codes "%x") ≡ Ok (Print (plain LowerHex 0 None), 2)
unfolding format_read lone_of
hexadecimal = refl

capital : token_read (codes "%2.2X") ≡ Ok (Print (plain UpperHex 2 (Some 2)), 5)
unfolding format_read lone_of
capital = refl

text : token_read (codes "%s") ≡ Ok (Print (plain Text 0 None), 2)
unfolding format_read lone_of
text = refl

colon : token_read (codes "%:d") ≡ Ok (Print (plain Signed 0 None), 3)
unfolding format_read lone_of
colon = refl

left_zero : token_read (codes "%:-05d|") ≡ Ok (Print (record (plain Signed 5 None) { left = true; zero = true }), 6)
unfolding format_read lone_of
left_zero = refl

left_text : token_read (codes "%:-6s|") ≡ Ok (Print (record (plain Text 6 None) { left = true }), 5)
unfolding format_read lone_of
left_text = refl

plus : token_read (codes "%:+d") ≡ Ok (Print (record (plain Signed 0 None) { plus = true }), 4)
unfolding format_read lone_of
plus = refl

repeated : token_read (codes "%:--++d") ≡ Ok (Print (record (plain Signed 0 None) { left = true; plus = true }), 7)
unfolding format_read lone_of
repeated = refl

zero_width : token_read (codes "%05.3d") ≡ Ok (Print (record (plain Signed 5 (Some 3)) { zero = true }), 6)
unfolding format_read lone_of
zero_width = refl

zero_flag : token_read (codes "%03d") ≡ Ok (Print (record (plain Signed 3 None) { zero = true }), 4)
unfolding format_read lone_of
zero_flag = refl

prefixed : token_read (codes "%#06x") ≡ Ok (Print (record (plain LowerHex 6 None) { alternate = true; zero = true }), 5)
unfolding format_read lone_of
prefixed = refl

prefixed_octal : token_read (codes "%#o") ≡ Ok (Print (record (plain Octal 0 None) { alternate = true }), 3)
unfolding format_read lone_of
prefixed_octal = refl

spaced : token_read (codes "% d") ≡ Ok (Print (record (plain Signed 0 None) { space = true }), 3)
unfolding format_read lone_of
spaced = refl

no_digits : token_read (codes "%.s|") ≡ Ok (Print (plain Text 0 (Some 0)), 3)
unfolding format_read lone_of
no_digits = refl

two_bytes : token_read (codes "%.2s") ≡ Ok (Print (plain Text 0 (Some 2)), 4)
unfolding format_read lone_of
two_bytes = refl

precision_zeros : token_read (codes "%.007d") ≡ Ok (Print (plain Signed 0 (Some 7)), 6)
unfolding format_read lone_of
precision_zeros = refl

no_precision : token_read (codes "%#.0o") ≡ Ok (Print (record (plain Octal 0 (Some 0)) { alternate = true }), 5)
unfolding format_read lone_of
no_precision = refl

widest : token_read (codes "%255.255d") ≡ Ok (Print (plain Signed 255 (Some 255)), 9)
unfolding format_read lone_of
widest = refl

too_wide : token_read (codes "%256d") ≡ Err BadFormat
unfolding format_read lone_of
too_wide = refl

too_precise : token_read (codes "%.256d") ≡ Err BadFormat
unfolding format_read lone_of
too_precise = refl

too_wide_short : token_read (codes "%300") ≡ Err BadFormat
unfolding format_read lone_of
too_wide_short = refl

width_short : token_read (codes "%30") ≡ Err CutShort
unfolding format_read lone_of
width_short = refl

colon_short : token_read (codes "%:") ≡ Err CutShort
unfolding format_read lone_of
colon_short = refl

point_short : token_read (codes "%.") ≡ Err CutShort
unfolding format_read lone_of
point_short = refl

colon_percent : token_read (codes "%:%") ≡ Err BadFormat
unfolding format_read lone_of
colon_percent = refl

late_flag : token_read (codes "%5-d") ≡ Err BadFormat
unfolding format_read lone_of
late_flag = refl

late_plus : token_read (codes "%#+d") ≡ Err BadFormat
unfolding format_read lone_of
late_plus = refl

no_char : token_read (codes "%5c") ≡ Err BadFormat
unfolding format_read lone_of
no_char = refl

-- the end, and a byte that begins no escape
nothing : token_read (codes "%") ≡ Err CutShort
nothing = refl

no_escape : token_read (codes "%q") ≡ Err UnknownEscape
unfolding format_read lone_of
no_escape = refl

bracket : token_read (codes "%[;0123456789]") ≡ Err UnknownEscape
unfolding format_read lone_of
bracket = refl

-- the spellings of some of these
quoted_percent : Spells (Constant (pos 37)) (codes "%'%'")
quoted_percent = inr (39 ∷ 37 ∷ 39 ∷ [], (37, refl, inl (omega arith, refl)), refl)

quoted_quote : Spells (Constant (pos 39)) (codes "%'''")
quoted_quote = inr (39 ∷ 39 ∷ 39 ∷ [], (39, refl, inl (omega arith, refl)), refl)

leading_zero : Spells (Constant (pos 65)) (codes "%{065}")
leading_zero = inr (123 ∷ 48 ∷ 54 ∷ 53 ∷ 125 ∷ [], (65, refl, inr (48 ∷ 54 ∷ 53 ∷ [], ((omega arith, omega arith), ((omega arith, omega arith), ((omega arith, omega arith), tt))), omega arith, refl, omega arith, refl)), refl)

spelled_percent : Spells (Byte 37) (codes "%%")
spelled_percent = inr (37 ∷ [], (refl, refl), refl)

spelled_byte : Spells (Byte 120) (codes "x")
spelled_byte = inl (120, refl, (λ e. absurd (omega arith)), refl)

spelled_load : Spells (Load 90) (codes "%gZ")
spelled_load = inr (103 ∷ 90 ∷ [], (inl (omega arith, omega arith), refl), refl)

spelled_less : Spells (Compute Less) (codes "%<")
spelled_less = inr (60 ∷ [], refl, refl)

spelled_open : Spells CondOpen (codes "%?")
spelled_open = inr (63 ∷ [], refl, refl)

spelled_decimal : Spells (Print (plain Signed 0 None)) (codes "%d")
spelled_decimal = inr (codes "d", ([], [], [], inl tt, (refl, refl, refl, refl, refl), refl, refl, refl), refl)

spelled_colon : Spells (Print (plain Signed 0 None)) (codes "%:d")
spelled_colon = inr (codes ":d", (codes ":", [], [], inr ([], tt, refl), (refl, refl, refl, refl, refl), refl, refl, refl), refl)

spelled_zero : Spells (Print (record (plain Signed 5 (Some 3)) { zero = true })) (codes "%05.3d")
spelled_zero =
    inr (
      codes "05.3d",
      (
        codes "0",
        codes "5",
        codes ".3",
        inl (inr (inr refl), tt),
        (refl, refl, refl, refl, refl),
        ((λ e. absurd (omega arith)), ((omega arith, omega arith), tt), refl, omega arith),
        (codes "3", ((omega arith, omega arith), tt), refl, omega arith, refl),
        refl,
      ),
      refl,
    )
