-- A conversion alone is read as a format without flags, width and precision.
use Rattle.std.proofs.Common.{◌≡◌, ℕ, ◌≤◌, List, [], ◌∷◌, length, get_or, refl, ◌∙◌, ap, arith, Ok}
use Rattle.std.specs.Prelude.{Some}
use Rattle.ti_cap.specs.declared.language.Token.TheVariants.{Print}
use Rattle.ti_cap.specs.declared.language.Conversion.{Conversion}
use Rattle.ti_cap.specs.declared.language.Conversion.TheVariants.{Signed, Octal, LowerHex, UpperHex, Text}
use Rattle.ti_cap.specs.Spelling.{conversion_letter}
use Rattle.ti_cap.specs.inner.Lexer.{conversions, conversion_of, plain_format, format_read, print_read}
use Rattle.ti_cap.proofs.ChoiceLemmas.{letter_found}

at_letter : (c : Conversion) (cs : List ℕ) → print_read (conversion_letter c ∷ cs) ≡ Ok (Print (plain_format c), 2)
unfolding format_read
at_letter Signed cs = refl
at_letter Octal cs = refl
at_letter LowerHex cs = refl
at_letter UpperHex cs = refl
at_letter Text cs = refl

plain_read : (letter : ℕ) (cs : List ℕ) (c : Conversion) → conversion_of letter ≡ Some c → print_read (letter ∷ cs) ≡ Ok (Print (plain_format c), 2)
plain_read letter cs c e =
    ap (λ (x : ℕ). print_read (x ∷ cs)) (letter_found conversion_letter conversions letter c e) ∙ at_letter c cs

pub plain_first : (bytes : List ℕ) (c : Conversion) → 1 ≤ length bytes → conversion_of (get_or bytes 0 0) ≡ Some c → print_read bytes ≡ Ok (Print (plain_format c), 2)
plain_first [] c h e = absurd (omega arith)
plain_first (letter ∷ cs) c h e = plain_read letter cs c e
