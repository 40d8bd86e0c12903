-- The numbers of a function: digits, up to 65535. Terminals differ above that: some take the greatest number, and some wrap.
use Rattle.std.specs.Prelude.{ℕ, Bool, true, false, ◌+◌, ◌*◌, ◌-◌, ◌||◌, nat_lt, codes, if◌then◌else◌}
use Rattle.ti_base.specs.Letters.{letter}
use Rattle.ti_parser.specs.Characters.{is_between}
use Rattle.ti_parser.specs.declared.number.FunctionNumber.{FunctionNumber}
use Rattle.ti_parser.specs.declared.number.FunctionNumber.TheVariants.{Absent, Known, Large, Any}

-- as many numbers as are kept: the most of any terminal but those that have no limit (xterm 30, VTE 32)
abbrev pub most_numbers : ℕ
most_numbers = 32

abbrev pub bounded : ℕ → FunctionNumber
bounded value = if nat_lt value 65536 then Known value else Large

abbrev pub with_digit : FunctionNumber → ℕ → FunctionNumber
with_digit Absent digit = Known digit
with_digit (Known value) digit = bounded (10 * value + digit)
with_digit Large digit = Large
with_digit Any digit = Any

-- a number of which only whether it came is known
abbrev pub forgotten : FunctionNumber → FunctionNumber
forgotten Absent = Absent
forgotten number = Any

abbrev pub is_absent : FunctionNumber → Bool
is_absent Absent = true
is_absent number = false

-- the digits of a color of the Linux console
abbrev pub is_hex : ℕ → Bool
is_hex byte =
    is_between (letter (codes "0")) (letter (codes "9")) byte || is_between (letter (codes "A")) (letter (codes "F")) byte
    || is_between (letter (codes "a")) (letter (codes "f")) byte

abbrev pub hex_value : ℕ → ℕ
hex_value byte =
    if nat_lt byte (letter (codes "A")) then byte - letter (codes "0")
    else if nat_lt byte (letter (codes "a")) then byte - 55
    else byte - 87
