-- The forms in which a byte is written.
use Rattle.std.proofs.Common.{◌≡◌, ◌+◌, ◌≤◌, ◌<◌, ◌&&◌, ◌||◌, ℕ, Bool, true, false, List, [], ◌∷◌, ◌++◌, sym, refl, subst, arith, cond, eqb, ltb, leb}
use Rattle.std.specs.Prelude.{codes}
use Rattle.std.proofs.lemmas.Bool.{and_parts, eqb-true, leb-true, ltb-true}
use Rattle.std.proofs.lemmas.Bool.Decides.{nat_tests}
use Rattle.ti_escape.specs.Notation.{byte_notation, end_notation, has_meaning, has_no_caret, octal}

control_is_low : (before byte : ℕ) → (leb 32 byte && ltb byte 127) ≡ false → has_no_caret before byte ≡ false → eqb byte 127 ≡ false → byte < 32
control_is_low before byte unprintable has other = grind (arith, nat_tests)

no_percent : (before byte : ℕ) → has_no_caret before byte ≡ false → eqb before 37 ≡ false
no_percent before byte has = grind (arith, nat_tests)

unprintable_is_other : (byte : ℕ) → (leb 32 byte && ltb byte 127) ≡ false → eqb byte 37 ≡ false
unprintable_is_other byte unprintable = grind (arith, nat_tests)

delete : (P : List ℕ → Type 0) (byte : ℕ) → (byte ≡ 127 → P (codes "^?")) → (eqb byte 127 ≡ false → P (codes "^" ++ (byte + 64) ∷ []))
    → (b : Bool) → eqb byte 127 ≡ b → P (cond b (codes "^?") (codes "^" ++ (byte + 64) ∷ []))
delete P byte is other true e = is (eqb-true byte 127 e)
delete P byte is other false e = other e

no_caret : (P : List ℕ → Type 0) (before byte : ℕ) (rest : List ℕ) → P (octal byte) → (has_no_caret before byte ≡ false → P rest)
    → (b : Bool) → has_no_caret before byte ≡ b → P (cond b (octal byte) rest)
no_caret P before byte rest is other true e = is
no_caret P before byte rest is other false e = other e

printable : (P : List ℕ → Type 0) (byte : ℕ) (rest : List ℕ) → (32 ≤ byte → byte < 127 → P (byte ∷ [])) → ((leb 32 byte && ltb byte 127) ≡ false → P rest)
    → (b : Bool) → (leb 32 byte && ltb byte 127) ≡ b → P (cond b (byte ∷ []) rest)
printable P byte rest is other true e =
    let (low, high) = and_parts (leb 32 byte) (ltb byte 127) e in
    is (leb-true 32 byte low) (ltb-true byte 127 high)
printable P byte rest is other false e = other e

meaning : (P : List ℕ → Type 0) (byte : ℕ) (rest : List ℕ) → (has_meaning byte ≡ true → P (codes "\\" ++ byte ∷ [])) → (has_meaning byte ≡ false → P rest)
    → (b : Bool) → has_meaning byte ≡ b → P (cond b (codes "\\" ++ byte ∷ []) rest)
meaning P byte rest is other true e = is e
meaning P byte rest is other false e = other e

escape : (P : List ℕ → Type 0) (byte : ℕ) (rest : List ℕ) → (byte ≡ 27 → P (codes "\\E")) → P rest → (b : Bool) → eqb byte 27 ≡ b → P (cond b (codes "\\E") rest)
escape P byte rest is other true e = is (eqb-true byte 27 e)
escape P byte rest is other false e = other

-- what holds of each form holds of the notation of a byte
pub byte_forms : (P : List ℕ → Type 0) (before byte : ℕ) → (byte ≡ 27 → P (codes "\\E")) → (has_meaning byte ≡ true → P (codes "\\" ++ byte ∷ []))
    → (has_meaning byte ≡ false → 32 ≤ byte → byte < 127 → P (byte ∷ [])) → (eqb byte 37 ≡ false → P (octal byte))
    → (eqb before 37 ≡ false → byte ≡ 127 → P (codes "^?")) → (eqb before 37 ≡ false → byte < 32 → P (codes "^" ++ (byte + 64) ∷ [])) → P (byte_notation before byte)
byte_forms P before byte is_escape is_meaning is_plain is_octal is_delete is_control =
    escape P byte _ is_escape
    (meaning P byte _ is_meaning
    (λ (none : has_meaning byte ≡ false). printable P byte _ (is_plain none)
    (λ (unprintable : (leb 32 byte && ltb byte 127) ≡ false). no_caret P before byte _ (is_octal (unprintable_is_other byte unprintable))
    (λ (has : has_no_caret before byte ≡ false). delete P byte (is_delete (no_percent before byte has))
    (λ (other : eqb byte 127 ≡ false). is_control (no_percent before byte has) (control_is_low before byte unprintable has other))
    _ refl)
    _ refl)
    _ refl)
    _ refl)
    _ refl

-- the bytes that mean something in a notation
second : (P : ℕ → Type 0) (byte one two three : ℕ) → P two → P three → (b : Bool) → eqb byte two ≡ b → (b || eqb byte three) ≡ true → P byte
second P byte one two three at_two at_three true e has = subst P (sym (eqb-true byte two e)) at_two
second P byte one two three at_two at_three false e has = subst P (sym (eqb-true byte three has)) at_three

first : (P : ℕ → Type 0) (byte one two three : ℕ) → P one → P two → P three → (b : Bool) → eqb byte one ≡ b → ((b || eqb byte two) || eqb byte three) ≡ true → P byte
first P byte one two three at_one at_two at_three true e has = subst P (sym (eqb-true byte one e)) at_one
first P byte one two three at_one at_two at_three false e has = second P byte one two three at_two at_three (eqb byte two) refl has

pub meaning_forms : (P : ℕ → Type 0) (byte : ℕ) → has_meaning byte ≡ true → P 92 → P 94 → P 44 → P byte
meaning_forms P byte has backslash caret comma = first P byte 92 94 44 backslash caret comma (eqb byte 92) refl has

space : (P : List ℕ → Type 0) (before byte : ℕ) → (byte ≡ 32 → P (codes "\\s")) → (eqb byte 32 ≡ false → P (byte_notation before byte))
    → (b : Bool) → eqb byte 32 ≡ b → P (cond b (codes "\\s") (byte_notation before byte))
space P before byte is other true e = is (eqb-true byte 32 e)
space P before byte is other false e = other e

pub end_forms : (P : List ℕ → Type 0) (before byte : ℕ) → (byte ≡ 32 → P (codes "\\s")) → (eqb byte 32 ≡ false → P (byte_notation before byte)) → P (end_notation before byte)
end_forms P before byte is other = space P before byte is other (eqb byte 32) refl
