-- A padding that C hands over, and the number that is returned.
use Rattle.std.specs.Prelude.{◌≡◌, ◌⊎◌, ℕ, ◌-◌, ◌^◌, ◌&&◌, Bool, true, false, not, List, min, nat_eq, nat_le}
use Rattle.ti_base.specs.Limits.{greatest_rate, most_lines}
use Rattle.ti_pad.specs.Into.{IsPadIntoFault}
use Rattle.ti_pad.specs.Padded.{padded_text}
use Rattle.ti_pad.specs.Setting.{Setting}
use Rattle.ti_pad.specs.declared.slice.PadIntoFault.{PadIntoFault}
use Rattle.ti_pad.specs.declared.slice.PadIntoFault.TheVariants.{TooMuch, OutTooSmall}
use Rattle.ti_c.specs.declared.padding.GivenPadding.{GivenPadding}
use Rattle.ti_c.specs.Numbers.{bad_padding, out_too_small, too_much}

-- the setting that a padding of C means: xon is off if it is 0, and else on
abbrev pub setting_given : GivenPadding → Setting
setting_given p = record { rate = p.rate; lines = p.affected_lines; xon = not (nat_eq p.xon 0); pad = p.pad }

-- the rate and the lines are within their limits
abbrev pub is_within_limits : GivenPadding → Bool
is_within_limits p = nat_le p.rate greatest_rate && nat_le p.affected_lines most_lines

-- the text with the padding in place of its marks
abbrev pub padded_as_given : List ℕ → GivenPadding → List ℕ
padded_as_given text p = padded_text text (setting_given p)

-- the number of a fault of a text that is padded within the limits
abbrev pub padding_number : PadIntoFault → ℕ
padding_number (TooMuch need) = too_much
padding_number (OutTooSmall need) = out_too_small

-- the number is that of a padding above its limits, or of the fault that the padded text has in so much room
abbrev pub IsPaddingFault : List ℕ → GivenPadding → ℕ → ℕ → Type 0
IsPaddingFault text p room number =
    ((is_within_limits p ≡ false) × (number ≡ bad_padding))
    ⊎ ((is_within_limits p ≡ true) × (fault : PadIntoFault) × (number ≡ padding_number fault) × IsPadIntoFault (padded_as_given text p) room fault)

-- a length as C gets it: the greatest size if it is greater still
abbrev pub told_length : ℕ → ℕ
told_length need = min need (2 ^ 64 - 1)
