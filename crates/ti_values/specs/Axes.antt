-- The numbers that motions send: `\E[`, one number or two, and a final byte.
use Rattle.std.specs.Prelude.{ℕ, ◌&&◌, ◌==◌, Bool, false, not, List, [], ◌∷◌, codes, length, take, Option, Some, None, if◌then◌else◌, option_and_then, option_map}
use Rattle.std.specs.List.{prefix_len}
use Rattle.std.specs.Str.{bytes_eq}
use Rattle.ti_base.specs.Letters.{letter}
use Rattle.ti_values.specs.Sequences.{after, after_text, introducer, is_digit, starts_final}
use Rattle.ti_values.specs.declared.axes.Axes.{Axes}
use Rattle.ti_values.specs.declared.axes.Axes.TheVariants.{Both, Line, Column, Lines}

-- ---- a number, by its digits

abbrev pub is_zero : ℕ → Bool
is_zero byte = byte == letter (codes "0")

-- without the zeros before it; a number that is left out is 1 (ECMA-48, 8.3.21)
abbrev pub significant : List ℕ → List ℕ
significant [] = codes "1"
significant (digit ∷ rest) = after is_zero (digit ∷ rest)

abbrev pub is_same_number : List ℕ → List ℕ → Bool
is_same_number one other = bytes_eq (significant one) (significant other)

-- ---- the numbers of a text

abbrev pub front_digits : List ℕ → List ℕ
front_digits bytes = take (prefix_len is_digit bytes) bytes

-- the bytes are one final byte
abbrev pub is_only_final : List ℕ → Bool
is_only_final bytes = starts_final bytes && length bytes == 1

-- digits, and a final byte at the end
abbrev pub last_number : List ℕ → Option (List ℕ)
last_number bytes = if is_only_final (after is_digit bytes) then Some (front_digits bytes) else None

-- digits, a semicolon, digits, and a final byte at the end
abbrev pub last_two : List ℕ → Option (List ℕ × List ℕ)
last_two bytes =
    option_map (λ second. (front_digits bytes, second))
    (option_and_then last_number (after_text (codes ";") (after is_digit bytes)))

-- the text is one control sequence with so many numbers
abbrev pub one_number : List ℕ → Option (List ℕ)
one_number text = option_and_then last_number (after_text introducer text)

abbrev pub two_numbers : List ℕ → Option (List ℕ × List ℕ)
two_numbers text = option_and_then last_two (after_text introducer text)

-- the second of two may be left out
abbrev pub or_one : Option (List ℕ × List ℕ) → Option (List ℕ) → Option (List ℕ × List ℕ)
or_one (Some numbers) one = Some numbers
or_one None one = option_map (λ first. (first, [])) one

abbrev pub both_numbers : List ℕ → Option (List ℕ × List ℕ)
both_numbers text = or_one (two_numbers text) (one_number text)

-- ---- whether they differ

-- from a number; and from two of them. Without numbers nothing differs
abbrev pub one_differs : List ℕ → Option (List ℕ) → Bool
one_differs number None = false
one_differs number (Some its) = not (is_same_number number its)

abbrev pub two_differ : List ℕ → List ℕ → Option (List ℕ × List ℕ) → Bool
two_differ first second None = false
two_differ first second (Some (its, other)) = not (is_same_number first its && is_same_number second other)

-- the line and the column of `cup` beside what another text sends for the same: `home` both, `vpa` the line, `hpa` the column, and
-- `csr` two lines
abbrev pub differ_from : Axes → Option (List ℕ × List ℕ) → List ℕ → Bool
differ_from axes None its = false
differ_from Both (Some (line, column)) its = two_differ line column (both_numbers its)
differ_from Line (Some (line, column)) its = one_differs line (one_number its)
differ_from Column (Some (line, column)) its = one_differs column (one_number its)
differ_from Lines (Some (line, column)) its = two_differ line line (two_numbers its)

abbrev pub numbers_differ : Axes → List ℕ → List ℕ → Bool
numbers_differ axes cup its = differ_from axes (two_numbers cup) its
