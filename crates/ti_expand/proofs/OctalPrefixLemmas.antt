-- The octal prefix.
use Rattle.std.proofs.Common.{◌≡◌, ℕ, ◌<◌, ◌^◌, Bool, true, false, List, [], ◌∷◌, ◌++◌, replicate, refl, ap, arith, ℤ, if◌then◌else◌}
use Rattle.std.specs.Prelude.{codes, FitsSigned}
use Rattle.std.specs.Int.{w32, cast_unsigned}
use Rattle.std.proofs.lemmas.Bool.{ne_eqb}
use Rattle.std.proofs.lemmas.Int.{ints}
use Rattle.ti_cap.specs.declared.language.Format.{Format}
use Rattle.ti_cap.specs.declared.language.Conversion.TheVariants.{Octal}
use Rattle.ti_expand.specs.Printed.{magnitude, octal_prefix, front_for}
use Rattle.ti_expand.proofs.SignificantLemmas.{IsNoZero, IsNoZero-significant}

prefixed : (ds : List ℕ) → IsNoZero ds → octal_prefix ds ≡ codes "0"
prefixed [] h = refl
prefixed (d ∷ ds) h = ap (λ (t : Bool). if t then [] else codes "0") (ne_eqb d 48 h)

-- the digits of a number start with no `0`, so that without zeros before them one is put
pub octal_front : (f : Format) (n : ℤ) (count : ℕ) → f.conversion ≡ Octal → f.alternate ≡ true → count ≡ 0 → FitsSigned w32 n
    → codes "0" ≡ front_for f.conversion f n (replicate count 48 ++ magnitude f.conversion n)
octal_front f n count c a z h =
    let bits : cast_unsigned w32 n < 2 ^ 32 = omega (arith, ints) in
    let front : octal_prefix (magnitude Octal n) ≡ codes "0" = prefixed (magnitude Octal n) (IsNoZero-significant 8 false (omega arith) (cast_unsigned w32 n) (omega arith)) in
    rw (c, a, z, front) refl
