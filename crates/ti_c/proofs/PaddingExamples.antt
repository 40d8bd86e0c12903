-- Worked rows of padding for C.
use Rattle.std.proofs.Common.{◌≡◌, ℕ, inl, inr, [], ◌∷◌, refl, arith}
use Rattle.std.specs.Prelude.{codes}
use Rattle.ti_pad.specs.Marks.{pieces_from}
use Rattle.ti_pad.specs.declared.slice.PadIntoFault.TheVariants.{TooMuch, OutTooSmall}
use Rattle.ti_c.specs.declared.padding.GivenPadding.{GivenPadding}
use Rattle.ti_c.specs.Numbers.{bad_padding, out_too_small}
use Rattle.ti_c.specs.Padding.{padded_as_given, told_length, IsPaddingFault}

-- 1000 bytes per second, one line, no xon, and the pad byte 0
abbrev slow : GivenPadding
slow = record { rate = 1000; affected_lines = 1; xon = 0; pad = 0 }

-- the same with xon, by a byte that is not 1
abbrev held : GivenPadding
held = record slow { xon = 255 }

padded_row : padded_as_given (codes "a$<3>b") slow ≡ 97 ∷ 0 ∷ 0 ∷ 0 ∷ 98 ∷ []
unfolding pieces_from
padded_row = refl

held_row : padded_as_given (codes "a$<3>b") held ≡ codes "ab"
unfolding pieces_from
held_row = refl

fits_row : (number : ℕ) → ¬ IsPaddingFault (codes "a$<3>b") slow 5 number
unfolding pieces_from
fits_row number (inl f) = absurd (cc (f.0))
fits_row number (inr (within, TooMuch need, is, f)) = omega (arith, f.1)
fits_row number (inr (within, OutTooSmall need, is, f)) = omega (arith, f.2)

small_row : IsPaddingFault (codes "a$<3>b") slow 4 out_too_small
unfolding pieces_from
small_row = inr (refl, OutTooSmall 5, refl, (refl, omega arith, omega arith))

rate_row : IsPaddingFault (codes "a") (record slow { rate = 1000001 }) 9 bad_padding
rate_row = inl (refl, refl)

lines_row : IsPaddingFault (codes "a") (record slow { affected_lines = 65536 }) 9 bad_padding
lines_row = inl (refl, refl)

told_row : told_length 18446744073709551616 ≡ 18446744073709551615
told_row = refl
