-- Small numbers in decimal, which most formats print.
use Rattle.std.specs.Prelude.{◌≡◌, ℕ, false, List, None}
use Rattle.ti_cap.specs.declared.language.Format.{Format}
use Rattle.ti_cap.specs.declared.language.Conversion.TheVariants.{Signed}
use Rattle.ti_expand.specs.Printed.{significant, with_zeros}

-- a format that prints a number with its digits alone
pub record IsPlainDecimal (f : Format) : Type 0 where
  pub conversion_is : f.conversion ≡ Signed
  pub no_plus : f.plus ≡ false
  pub no_space : f.space ≡ false
  pub no_width : f.width ≡ 0
  pub no_precision : f.precision ≡ None

-- a number in decimal, one digit or more
abbrev pub decimal_digits : ℕ → List ℕ
decimal_digits n = with_zeros 1 (significant 10 false n)
