-- Each character of a notation and of a label can be printed, and none of a label is a space.
use Rattle.std.proofs.Common.{◌≡◌, ◌∙◌, ◌+◌, ◌/◌, ◌%◌, ◌≤◌, ◌<◌, ℕ, Bool, true, false, List, [], ◌∷◌, ◌++◌, refl, subst, sym, arith, cond, eqb}
use Rattle.std.specs.List.{list_all}
use Rattle.std.proofs.lemmas.Bool.{and_from, and_parts, eqb-true}
use Rattle.std.proofs.lemmas.Bool.Decides.{nat_tests}
use Rattle.std.proofs.lemmas.List.Folds.{list_all-append}
use Rattle.ti_escape.specs.Laws.{HasNoSpace, IsPrintable, is_label_char, is_printable}
use Rattle.ti_escape.specs.Notation.{byte_notation, each_notation, end_notation, first_notation, later_notation, looks_like_a_word, octal}
use Rattle.ti_escape.proofs.ByteFormsLemmas.{byte_forms, end_forms, meaning_forms}

abbrev pub ArePrintable : List ℕ → Type 0
ArePrintable chars = list_all is_printable chars ≡ true

abbrev pub AreLabelChars : List ℕ → Type 0
AreLabelChars chars = list_all is_label_char chars ≡ true

joined : (p : ℕ → Bool) (xs ys : List ℕ) → list_all p xs ≡ true → list_all p ys ≡ true → list_all p (xs ++ ys) ≡ true
joined p xs ys of_xs of_ys = list_all-append p xs ys ∙ and_from (list_all p xs) (list_all p ys) of_xs of_ys

-- what is no space and can be printed can be printed
one_printable : (char : ℕ) → is_label_char char ≡ true → is_printable char ≡ true
one_printable char is = grind (arith, nat_tests)

pub label_chars_printable : (chars : List ℕ) → AreLabelChars chars → ArePrintable chars
label_chars_printable [] all = refl
label_chars_printable (char ∷ rest) all =
    let (first, more) = and_parts (is_label_char char) (list_all is_label_char rest) all in
    and_from (is_printable char) (list_all is_printable rest) (one_printable char first) (label_chars_printable rest more)

-- ---- labels

within : (char : ℕ) → 32 < char → char < 127 → is_label_char char ≡ true
within char low high = grind (arith, nat_tests)

one : (char : ℕ) → 32 < char → char < 127 → AreLabelChars (char ∷ [])
one char low high = rw (within char low high) refl

no_space : (byte : ℕ) → eqb byte 32 ≡ false → 32 ≤ byte → 32 < byte
no_space byte other low = grind (arith, nat_tests)

octal_label : (byte : ℕ) → AreLabelChars (octal byte)
octal_label byte =
    let first : is_label_char (48 + byte / 64 % 8) ≡ true = within (48 + byte / 64 % 8) (omega arith) (omega arith) in
    let second : is_label_char (48 + byte / 8 % 8) ≡ true = within (48 + byte / 8 % 8) (omega arith) (omega arith) in
    let third : is_label_char (48 + byte % 8) ≡ true = within (48 + byte % 8) (omega arith) (omega arith) in
    rw (first, second, third) refl

byte_label : (before byte : ℕ) → eqb byte 32 ≡ false → AreLabelChars (byte_notation before byte)
byte_label before byte other =
    byte_forms AreLabelChars before byte
    (λ is. refl)
    (λ has. meaning_forms (λ b. AreLabelChars (92 ∷ b ∷ [])) byte has refl refl refl)
    (λ none low high. one byte (no_space byte other low) high)
    (λ percent. octal_label byte)
    (λ none is. refl)
    (λ none low. one (byte + 64) (omega arith) (omega arith))

end_label : (before byte : ℕ) → AreLabelChars (end_notation before byte)
end_label before byte = end_forms AreLabelChars before byte (λ is. refl) (byte_label before byte)

each_label : (before : ℕ) (xs : List ℕ) → AreLabelChars (each_notation end_notation before xs)
each_label before [] = refl
each_label before (byte ∷ rest) =
    joined is_label_char (end_notation before byte) (each_notation end_notation byte rest) (end_label before byte) (each_label byte rest)

pub has_no_space : HasNoSpace
has_no_space name = each_label 0 name

-- ---- notations

printable_by : (before byte : ℕ) → (b : Bool) → eqb byte 32 ≡ b → ArePrintable (byte_notation before byte)
printable_by before byte true e = subst (λ b. ArePrintable (byte_notation before b)) (sym (eqb-true byte 32 e)) refl
printable_by before byte false e = label_chars_printable (byte_notation before byte) (byte_label before byte e)

byte_printable : (before byte : ℕ) → ArePrintable (byte_notation before byte)
byte_printable before byte = printable_by before byte (eqb byte 32) refl

end_printable : (before byte : ℕ) → ArePrintable (end_notation before byte)
end_printable before byte = label_chars_printable (end_notation before byte) (end_label before byte)

later_printable : (before : ℕ) (xs : List ℕ) → ArePrintable (later_notation before xs)
later_printable before [] = refl
later_printable before (byte ∷ []) = end_printable before byte
later_printable before (byte ∷ next ∷ rest) =
    joined is_printable (byte_notation before byte) (later_notation byte (next ∷ rest)) (byte_printable before byte) (later_printable byte (next ∷ rest))

first_by : (byte : ℕ) → (b : Bool) → ArePrintable (cond b (octal byte) (end_notation 0 byte))
first_by byte true = label_chars_printable (octal byte) (octal_label byte)
first_by byte false = end_printable 0 byte

pub is_printable_all : IsPrintable
is_printable_all [] = refl
is_printable_all (byte ∷ rest) =
    joined is_printable (first_notation byte rest) (later_notation byte rest) (first_by byte (looks_like_a_word (byte ∷ rest))) (later_printable byte rest)
