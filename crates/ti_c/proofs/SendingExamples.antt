-- Worked rows of what is not sent: an output of seven bytes that becomes six, a room of twelve bytes and of thirteen.
use Rattle.std.proofs.Common.{ℕ, inl, inr, refl, arith}
use Rattle.std.specs.Prelude.{codes}
use Rattle.ti_pad.specs.Marks.{pieces_from}
use Rattle.ti_c.specs.declared.padding.GivenPadding.{GivenPadding}
use Rattle.ti_c.specs.Numbers.{out_too_small}
use Rattle.ti_c.specs.Padding.{padded_as_given}
use Rattle.ti_c.specs.Sending.{IsUnsent}

-- 1000 bytes per second, one line, no xon, and the pad byte 0
abbrev slow : GivenPadding
slow = record { rate = 1000; affected_lines = 1; xon = 0; pad = 0 }

-- 13 bytes are needed
small_row : IsUnsent (codes "ab$<3>c") (padded_as_given (codes "ab$<3>c") slow) 12 out_too_small 13
unfolding pieces_from
small_row = inr (omega arith, omega arith, refl, refl)

-- and they are enough
enough_row : (number need : ℕ) → ¬ IsUnsent (codes "ab$<3>c") (padded_as_given (codes "ab$<3>c") slow) 13 number need
unfolding pieces_from
enough_row number need (inl (above, n, m)) = omega (arith, above)
enough_row number need (inr (low, small, n, m)) = omega (arith, small)
