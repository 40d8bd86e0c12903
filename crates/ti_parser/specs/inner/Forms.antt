-- The forms in which a number may be printed.
use Rattle.std.specs.Prelude.{◌≡◌, ℕ, zero, suc, Bool, true, false, not, ◌&&◌, List, [], ◌∷◌, ◌++◌, ℤ, pos, nat_lt, codes, if◌then◌else◌}
use Rattle.ti_cap.specs.declared.language.Conversion.{Conversion}
use Rattle.ti_cap.specs.declared.language.Conversion.TheVariants.{Signed, LowerHex, UpperHex}
use Rattle.ti_cap.specs.declared.language.Format.{Format}
use Rattle.ti_expand.specs.Printed.{fills_with_zeros, least_count, sign}
use Rattle.ti_parser.specs.Covers.{IsOf}
use Rattle.ti_parser.specs.declared.reading.FirstCharacter.{FirstCharacter}
use Rattle.ti_parser.specs.declared.reading.FirstCharacter.TheVariants.{Any, Printable, Designator}

-- so many numbers from one on
abbrev pub count_up : ℕ → ℕ → List ℕ
count_up low zero = []
count_up low (suc n) = low ∷ count_up (suc low) n

-- the bytes of digits, and of the prefix that `#` puts before them
abbrev pub digit_bytes : Conversion → Bool → List ℕ
digit_bytes LowerHex false = count_up 48 10 ++ count_up 97 6
digit_bytes LowerHex true = count_up 48 10 ++ (count_up 97 6 ++ codes "x")
digit_bytes UpperHex false = count_up 48 10 ++ count_up 65 6
digit_bytes UpperHex true = count_up 48 10 ++ (count_up 65 6 ++ codes "X")
digit_bytes conversion alternate = count_up 48 10

-- spaces may fill the width
abbrev pub is_filled : Format → Bool
is_filled f = nat_lt (least_count f.precision) f.width && not (fills_with_zeros f)

abbrev pub AreBlanks : Bool → List ℕ → Type 0
AreBlanks true text = IsOf (0x20 ∷ []) text
AreBlanks false text = text ≡ []

-- a number without a sign has as many digits as its width, if zeros fill it
abbrev pub has_zeros : Conversion → Format → Bool
has_zeros Signed f = false
has_zeros conversion f = fills_with_zeros f

-- how many digits are printed at least
abbrev pub least_of : Conversion → Format → ℕ
least_of conversion f = if has_zeros conversion f then f.width else least_count f.precision

-- only a signed number has a sign
abbrev pub sign_of : Conversion → Format → ℤ → List ℕ
sign_of Signed f n = sign f n
sign_of conversion f n = []

-- the sign of a number that is not negative
abbrev pub plus_of : Format → List ℕ
plus_of f = sign f (pos 0)

-- the bytes of data
abbrev pub data_bytes : List ℕ
data_bytes = count_up 32 31 ++ count_up 64 63

-- the bytes that a first parameter may be, unless it may be any
abbrev pub characters : FirstCharacter → List ℕ
characters Any = []
characters Printable = data_bytes
characters Designator = count_up 48 79
