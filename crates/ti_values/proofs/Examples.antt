-- Worked rows of what is found, computed.
use Rattle.std.proofs.Common.{◌≡◌, ℕ, List, [], ◌∷◌, ◌++◌, inr, map, refl, true, false, Bool, pos}
use Rattle.std.specs.Prelude.{codes, None, Some}
use Rattle.std.specs.Int.{int_wrap}
use Rattle.std.specs.Fmt.{digits}
use Rattle.ti_base.specs.Letters.{letter}
use Rattle.ti_cap.specs.declared.language.Conversion.TheVariants.{Signed, Octal, Text}
use Rattle.ti_cap.specs.declared.language.Conversion.{Conversion}
use Rattle.ti_cap.specs.declared.language.Op.TheVariants.{Sub}
use Rattle.ti_cap.specs.declared.language.Token.TheVariants.{Byte, Char, Compute, CondClose, CondElse, CondOpen, CondThen, Constant, Increment, Param, Print}
use Rattle.ti_cap.specs.declared.language.Token.{Token}
use Rattle.ti_cap.specs.declared.mode.Mode.TheVariants.{Run}
use Rattle.ti_expand.specs.State.{start}
use Rattle.ti_expand.specs.Steps.{steps}
use Rattle.ti_values.specs.Attributes.{lacks_part}
use Rattle.ti_values.specs.Axes.{numbers_differ}
use Rattle.ti_values.specs.Negative.{some_negative}
use Rattle.ti_values.specs.Ranges.{parameters_of, values}
use Rattle.ti_values.specs.Renditions.{are_parts, are_parts_after, lacks_new, parameters, shifts, split_after}
use Rattle.ti_values.specs.Sent.{fresh}
use Rattle.ti_values.specs.Sequences.{is_ansi}
use Rattle.ti_values.specs.declared.axes.Axes.TheVariants.{Both, Line, Column, Lines}
use Rattle.ti_values.specs.declared.range.Range.TheVariants.{Numbers}
use Rattle.ti_values.specs.declared.tried.Tried.TheVariants.{Number}

-- ---- parameters and shifts

escape : List ℕ → List ℕ
escape rest = 27 ∷ rest

parameter_rows : (parameters (escape (codes "[2;72;m")) ≡ codes "2" ∷ codes "72" ∷ [] ∷ []) × (parameters (escape (codes "[01;0m")) ≡ codes "1" ∷ [] ∷ [])
    × (parameters (escape (codes "[4:3;7<0m")) ≡ codes "4" ∷ codes "3" ∷ codes "7" ∷ [] ∷ []) × (parameters (155 ∷ codes "0;18m") ≡ [] ∷ codes "18" ∷ [])
    × (parameters (escape (codes "[1;7H")) ≡ []) × (parameters (codes "1;7m") ≡ [])
unfolding parameters split_after escape
parameter_rows = (refl, refl, refl, refl, refl, refl)

shift_rows : (shifts (escape (codes "[7m") ++ escape (codes "(B") ++ 14 ∷ []) ≡ escape (codes "(B") ∷ (14 ∷ []) ∷ []) × (shifts (escape (codes "7")) ≡ [])
unfolding shifts escape
shift_rows = (refl, refl)

part_rows : (are_parts (escape (codes "[0;7m") ++ 15 ∷ escape (codes ")4")) ≡ true) × (are_parts (escape (codes "[7mB")) ≡ false) × (are_parts (escape (codes "[7")) ≡ false)
    × (are_parts [] ≡ true)
unfolding are_parts_after escape
part_rows = (refl, refl, refl, refl)

-- ---- attributes: standout of d410; underline of bsdos-pc; and what is not judged

lacking_rows : (lacks_part (escape (codes "[2;72;m") ++ escape (codes ")4") ++ 15 ∷ []) (escape (codes "[2;7m")) ≡ true)
    × (lacks_part (escape (codes "[0;10;1m")) (escape (codes "[4m")) ≡ true) × (lacks_part (escape (codes "[0;4m")) (escape (codes "[4m")) ≡ false)
    × (lacks_part (escape (codes "[0m")) (14 ∷ []) ≡ true) × (lacks_part (escape (codes "[0m")) (escape (codes "G4")) ≡ false)
unfolding parameters split_after shifts are_parts_after escape
lacking_rows = (refl, refl, refl, refl, refl)

-- bold and invisible on ofcons, and both as they should be
combination_rows : (lacks_new (parameters (155 ∷ codes "0m")) (parameters (155 ∷ codes "0;18m")) (parameters (155 ∷ codes "0;1m")) ≡ true)
    × (lacks_new (parameters (155 ∷ codes "0m")) (parameters (155 ∷ codes "0;1;8m")) (parameters (155 ∷ codes "0;1m")) ≡ false)
unfolding parameters split_after
combination_rows = (refl, refl)

-- ---- cursor motions of ECMA-48: of vt100, cit101e, and with the column first; and none: of vt52, and what sets a region
motion_rows : (is_ansi (escape (codes "[%i%p1%d;%p2%dH$<5>")) ≡ true) × (is_ansi (escape (codes "[%i%p1%2d;%p2%2dH")) ≡ true)
    × (is_ansi (escape (codes "[%p2%d;%p1%03df")) ≡ true) × (is_ansi (escape (codes "Y%p1%' '%+%c%p2%' '%+%c")) ≡ false)
    × (is_ansi (escape (codes "[%i%p1%d;%p2%dr")) ≡ false) × (is_ansi (escape (codes "[%p1%d;%p1%dH")) ≡ false)
unfolding escape
motion_rows = (refl, refl, refl, refl, refl, refl)

-- ---- numbers below 0: `%p1%{2}%-%d`, the same as `%o`, and within a conditional that is passed over

printed : Conversion → Token
printed conversion = Print (record { conversion = conversion; left = false; plus = false; space = false; alternate = false; zero = false; width = 0; precision = None })

is_negative_for : ℕ → List Token → Bool
is_negative_for n tokens = some_negative (start fresh (parameters_of (Number n))) (steps Run (start fresh (parameters_of (Number n))) tokens)

less_two : List Token
less_two = Param 1 ∷ Constant (pos 2) ∷ Compute Sub ∷ []

negative_rows : (is_negative_for 1 (less_two ++ printed Signed ∷ []) ≡ true) × (is_negative_for 2 (less_two ++ printed Signed ∷ []) ≡ false)
    × (is_negative_for 1 (less_two ++ printed Octal ∷ []) ≡ false)
    × (is_negative_for 1 (CondOpen ∷ Constant (pos 0) ∷ CondThen ∷ less_two ++ printed Signed ∷ CondElse ∷ CondClose ∷ []) ≡ false)
unfolding int_wrap digits is_negative_for less_two printed
negative_rows = (refl, refl, refl, refl)

-- ---- numbers of motions: `vpa` of ncr160vt200pp, `home` of ibmpcx and of linux, `csr` of vt100-s; zeros in front, and more than numbers

axes_rows : (numbers_differ Line (escape (codes "[1;1H")) (escape (codes "[0d")) ≡ true) × (numbers_differ Both (escape (codes "[0;0H")) (escape (codes "[H")) ≡ true)
    × (numbers_differ Both (escape (codes "[1;1H")) (escape (codes "[H")) ≡ false) × (numbers_differ Lines (escape (codes "[2;1H")) (escape (codes "[2;2r")) ≡ false)
    × (numbers_differ Column (escape (codes "[1;1H")) (escape (codes "[01G")) ≡ false) × (numbers_differ Line (escape (codes "[1;1H")) (escape (codes "[?0d")) ≡ false)
unfolding escape
axes_rows = (refl, refl, refl, refl, refl, refl)
