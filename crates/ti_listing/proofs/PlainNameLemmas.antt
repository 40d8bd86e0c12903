-- A name of which no byte is escaped is its own label.
use Rattle.std.proofs.Common.{◌≡◌, ◌∙◌, ℕ, Bool, true, false, List, [], ◌∷◌, ◌++◌, ap, refl, arith}
use Rattle.std.specs.Prelude.{◌&&◌}
use Rattle.std.specs.List.{list_all}
use Rattle.std.proofs.lemmas.Bool.Decides.{nat_tests}
use Rattle.ti_escape.specs.Notation.{each_notation, end_notation, label_notation}
use Rattle.ti_listing.specs.inner.Plain.{is_plain}

plain_byte : (before byte : ℕ) → is_plain byte ≡ true → end_notation before byte ≡ byte ∷ []
plain_byte before byte plain = grind (arith, nat_tests)

plain_bytes : (before : ℕ) (name : List ℕ) → list_all is_plain name ≡ true → each_notation end_notation before name ≡ name
plain_bytes before [] plain = refl
plain_bytes before (byte ∷ rest) plain = by (is_plain byte) refl plain (λ more. plain_bytes byte rest more)
  where
    by : (b : Bool) → is_plain byte ≡ b → (b && list_all is_plain rest) ≡ true → (list_all is_plain rest ≡ true → each_notation end_notation byte rest ≡ rest)
        → each_notation end_notation before (byte ∷ rest) ≡ byte ∷ rest
    by true e plain later = ap (λ l. l ++ each_notation end_notation byte rest) (plain_byte before byte e) ∙ ap (λ l. byte ∷ l) (later plain)
    by false e plain later = absurd cc

pub plain_label : (name : List ℕ) → list_all is_plain name ≡ true → label_notation name ≡ name
plain_label name plain = plain_bytes 0 name plain
