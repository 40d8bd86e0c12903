-- The notation of a text is read as the text.
use Rattle.std.proofs.Common.{◌≡◌, ◌∙◌, ◌+◌, ◌-◌, ◌*◌, ◌/◌, ◌%◌, ◌<◌, ℕ, Bool, true, false, List, [], ◌∷◌, ◌++◌, Ok, ap, sym, refl, subst, drop, length, arith, cond, eqb, leb, ltb, append-nil}
use Rattle.std.specs.Prelude.{codes}
use Rattle.std.specs.List.{list_all}
use Rattle.std.proofs.lemmas.Bool.{and_parts, le-leb, lt-ltb, ltb-true, ne_eqb}
use Rattle.std.proofs.lemmas.List.{drop-drop}
use Rattle.std.proofs.lemmas.Bool.Decides.{nat_tests}
use Rattle.ti_escape.specs.Laws.{AreBytes, IsLabelReadBack, IsReadBack, LabelLooksLikeNoOther, LooksLikeNoOther, LooksLikeNoWord, is_byte}
use Rattle.ti_escape.specs.Notation.{byte_notation, each_notation, end_notation, has_meaning, label_notation, later_notation, looks_like_a_word, notation, octal, octal_digit}
use Rattle.ti_escape.specs.Reading.{Read, control_byte, is_octal_digit, meant_at, placed, read_from, reading, with_bytes}
use Rattle.ti_escape.proofs.ReadingLemmas.{read_none, read_one}
use Rattle.ti_escape.proofs.ByteFormsLemmas.{byte_forms, end_forms, meaning_forms}

read_part : (after : Bool) (char : ℕ) (rest : List ℕ) (byte more : ℕ) (percent : Bool)
    → meant_at after (char ∷ rest) ≡ Ok (record { byte = byte; more = more; percent = percent }) → percent ≡ eqb byte 37
    → read_from after 0 (char ∷ rest) ≡ with_bytes (byte ∷ []) (read_from (eqb byte 37) 0 (drop more rest))
read_part after char rest byte more percent e is_percent =
    let from : drop (more + 1) (char ∷ rest) ≡ drop more rest = sym (drop-drop more 1 (char ∷ rest) ∙ ap (λ n. drop n (char ∷ rest)) (omega arith)) in
    read_one after (char ∷ rest) (record { byte = byte; more = more; percent = percent }) e
    ∙ ap (with_bytes (byte ∷ [])) (ap (λ p. read_from p 0 (drop (more + 1) (char ∷ rest))) is_percent ∙ ap (read_from (eqb byte 37) 0) from)

-- after a `%` or not, some characters are read as one byte, whatever is after them
abbrev IsReadAs : Bool → ℕ → List ℕ → Type 0
IsReadAs after byte chars = (rest : List ℕ) → read_from after 0 (chars ++ rest) ≡ with_bytes (byte ∷ []) (read_from (eqb byte 37) 0 rest)

-- the same of a byte that is known
known_read : (byte known : ℕ) (read : Read) (rest : List ℕ) → byte ≡ known → read ≡ with_bytes (known ∷ []) (read_from (eqb known 37) 0 rest)
    → read ≡ with_bytes (byte ∷ []) (read_from (eqb byte 37) 0 rest)
known_read byte known read rest is e = e ∙ ap (λ b. with_bytes (b ∷ []) (read_from (eqb b 37) 0 rest)) (sym is)

meaning_read : (after : Bool) (byte : ℕ) → has_meaning byte ≡ true → IsReadAs after byte (codes "\\" ++ byte ∷ [])
meaning_read after byte has rest =
    meaning_forms (λ b. read_from after 0 (codes "\\" ++ b ∷ rest) ≡ with_bytes (b ∷ []) (read_from (eqb b 37) 0 rest)) byte has
    (read_part after 92 (92 ∷ rest) 92 1 false refl refl) (read_part after 92 (94 ∷ rest) 94 1 false refl refl)
    (read_part after 92 (44 ∷ rest) 44 1 false refl refl)

control_byte-caret : (byte : ℕ) → byte < 32 → control_byte (byte + 64) ≡ byte
control_byte-caret byte small =
    let other : eqb (byte + 64) 63 ≡ false = ne_eqb (byte + 64) 63 (λ e. absurd (omega arith)) in
    rw other (omega arith)

caret_read : (after : Bool) (byte : ℕ) → after ≡ false → byte < 32 → IsReadAs after byte (codes "^" ++ (byte + 64) ∷ [])
caret_read after byte none small rest =
    let low : leb 32 (byte + 64) ≡ true = le-leb 32 (byte + 64) (omega arith) in
    let high : ltb (byte + 64) 127 ≡ true = lt-ltb (byte + 64) 127 (omega arith) in
    let meant : meant_at after (94 ∷ (byte + 64) ∷ rest) ≡ Ok (record { byte = byte; more = 1; percent = false })
    = rw (none, low, high) (ap (λ b. Ok (record { byte = b; more = 1; percent = false })) (control_byte-caret byte small)) in
    read_part after 94 ((byte + 64) ∷ rest) byte 1 false meant (sym (ne_eqb byte 37 (λ e. absurd (omega arith))))

delete_read : (after : Bool) (byte : ℕ) → after ≡ false → byte ≡ 127 → IsReadAs after byte (codes "^?")
delete_read after byte none is rest =
    let meant : meant_at after (94 ∷ 63 ∷ rest) ≡ Ok (record { byte = 127; more = 1; percent = false }) = rw none refl in
    known_read byte 127 _ rest is (read_part after 94 (63 ∷ rest) 127 1 false meant refl)

not_meaning : (byte : ℕ) → has_meaning byte ≡ false → (eqb byte 92 ≡ false) × (eqb byte 94 ≡ false)
not_meaning byte none = (grind (arith, nat_tests), grind (arith, nat_tests))

plain_read : (after : Bool) (byte : ℕ) → has_meaning byte ≡ false → IsReadAs after byte (byte ∷ [])
plain_read after byte none rest =
    let (backslash, caret) = not_meaning byte none in
    let itself : meant_at after (byte ∷ rest) ≡ Ok (record { byte = byte; more = 0; percent = eqb byte 37 }) = rw (backslash, caret) refl in
    read_part after byte rest byte 0 (eqb byte 37) itself refl

octal_digit-read : (n : ℕ) → n < 8 → is_octal_digit (octal_digit n) ≡ true
octal_digit-read n small = grind (arith, nat_tests)

octal_value-digits : (byte : ℕ) → byte < 256 → (8 * (8 * (0 + (48 + byte / 64 % 8 - 48)) + (48 + byte / 8 % 8 - 48)) + (48 + byte % 8 - 48)) % 256 ≡ byte
octal_value-digits byte small = omega arith

octal_read : (after : Bool) (byte : ℕ) → byte < 256 → eqb byte 37 ≡ false → IsReadAs after byte (octal byte)
octal_read after byte small other rest =
    let first : is_octal_digit (octal_digit (byte / 64 % 8)) ≡ true = octal_digit-read (byte / 64 % 8) (omega arith) in
    let second : is_octal_digit (octal_digit (byte / 8 % 8)) ≡ true = octal_digit-read (byte / 8 % 8) (omega arith) in
    let third : is_octal_digit (octal_digit (byte % 8)) ≡ true = octal_digit-read (byte % 8) (omega arith) in
    let digits : List ℕ = octal_digit (byte / 64 % 8) ∷ octal_digit (byte / 8 % 8) ∷ octal_digit (byte % 8) ∷ rest in
    let meant : meant_at after (92 ∷ digits) ≡ Ok (record { byte = byte; more = 3; percent = false })
    = rw (first, second, third) (ap (λ b. Ok (record { byte = b; more = 3; percent = false })) (octal_value-digits byte small)) in
    read_part after 92 digits byte 3 false meant (sym other)

byte_read : (before byte : ℕ) → byte < 256 → IsReadAs (eqb before 37) byte (byte_notation before byte)
byte_read before byte small =
    byte_forms (IsReadAs (eqb before 37) byte) before byte
    (λ is rest. known_read byte 27 _ rest is (read_part (eqb before 37) 92 (69 ∷ rest) 27 1 false refl refl))
    (meaning_read (eqb before 37) byte)
    (λ none low high. plain_read (eqb before 37) byte none)
    (octal_read (eqb before 37) byte small)
    (delete_read (eqb before 37) byte)
    (caret_read (eqb before 37) byte)

end_read : (before byte : ℕ) → byte < 256 → IsReadAs (eqb before 37) byte (end_notation before byte)
end_read before byte small =
    end_forms (IsReadAs (eqb before 37) byte) before byte
    (λ is rest. known_read byte 32 _ rest is (read_part (eqb before 37) 92 (115 ∷ rest) 32 1 false refl refl))
    (λ other. byte_read before byte small)

last_read : (before byte : ℕ) → byte < 256 → read_from (eqb before 37) 0 (end_notation before byte) ≡ Ok (byte ∷ [])
last_read before byte small =
    ap (λ l. read_from (eqb before 37) 0 l) (sym (append-nil (end_notation before byte))) ∙ end_read before byte small [] ∙ ap (with_bytes (byte ∷ [])) (read_none (eqb byte 37))

later_read : (before : ℕ) (xs : List ℕ) → AreBytes xs → read_from (eqb before 37) 0 (later_notation before xs) ≡ Ok xs
later_read before [] all = read_none (eqb before 37)
later_read before (byte ∷ []) all = last_read before byte (ltb-true byte 256 (and_parts (is_byte byte) (list_all is_byte []) all).0)
later_read before (byte ∷ next ∷ rest) all =
    let (first, more) = and_parts (is_byte byte) (list_all is_byte (next ∷ rest)) all in
    byte_read before byte (ltb-true byte 256 first) (later_notation byte (next ∷ rest)) ∙ ap (with_bytes (byte ∷ [])) (later_read byte (next ∷ rest) more)

-- no word starts with a `%`
no_word_is_percent : (byte : ℕ) (rest : List ℕ) → looks_like_a_word (byte ∷ rest) ≡ true → eqb byte 37 ≡ false
no_word_is_percent byte rest word =
    ne_eqb byte 37 (λ is. let other : looks_like_a_word (37 ∷ rest) ≡ true = subst (λ b. looks_like_a_word (b ∷ rest) ≡ true) is word in absurd (cc other))

first_by : (byte : ℕ) (rest : List ℕ) → byte < 256 → (b : Bool) → looks_like_a_word (byte ∷ rest) ≡ b → IsReadAs false byte (cond b (octal byte) (end_notation 0 byte))
first_by byte rest small true word = octal_read false byte small (no_word_is_percent byte rest word)
first_by byte rest small false word = end_read 0 byte small

pub is_read_back : IsReadBack
is_read_back [] all = ap (placed 0) (read_none false)
is_read_back (byte ∷ rest) all =
    let (first, more) = and_parts (is_byte byte) (list_all is_byte rest) all in
    ap (placed (length (notation (byte ∷ rest))))
    (first_by byte rest (ltb-true byte 256 first) (looks_like_a_word (byte ∷ rest)) refl (later_notation byte rest) ∙ ap (with_bytes (byte ∷ [])) (later_read byte rest more))

label_read : (before : ℕ) (xs : List ℕ) → AreBytes xs → read_from (eqb before 37) 0 (each_notation end_notation before xs) ≡ Ok xs
label_read before [] all = read_none (eqb before 37)
label_read before (byte ∷ rest) all =
    let (first, more) = and_parts (is_byte byte) (list_all is_byte rest) all in
    end_read before byte (ltb-true byte 256 first) (each_notation end_notation byte rest) ∙ ap (with_bytes (byte ∷ [])) (label_read byte rest more)

pub is_label_read_back : IsLabelReadBack
is_label_read_back name all = ap (placed (length (label_notation name))) (label_read 0 name all)

pub label_looks_like_no_other : LabelLooksLikeNoOther
label_looks_like_no_other a b a_bytes b_bytes same = let e : Ok a ≡ Ok b = sym (is_label_read_back a a_bytes) ∙ ap reading same ∙ is_label_read_back b b_bytes in cc e

pub looks_like_no_other : LooksLikeNoOther
looks_like_no_other a b a_bytes b_bytes same = let e : Ok a ≡ Ok b = sym (is_read_back a a_bytes) ∙ ap reading same ∙ is_read_back b b_bytes in cc e

-- a word is read as itself, and its notation is another
dash_read : reading (codes "-") ≡ Ok (codes "-")
unfolding read_from
dash_read = refl

cancelled_read : reading (codes "cancelled") ≡ Ok (codes "cancelled")
unfolding read_from
cancelled_read = refl

pub looks_like_no_word : LooksLikeNoWord
looks_like_no_word text all = (
  λ same. let read : Ok text ≡ Ok (codes "-") = sym (is_read_back text all) ∙ ap reading same ∙ dash_read in
      let is : text ≡ codes "-" = cc read in
      let other : notation (codes "-") ≡ codes "-" = subst (λ t. notation t ≡ codes "-") is same in
      absurd (cc other),
  λ same. let read : Ok text ≡ Ok (codes "cancelled") = sym (is_read_back text all) ∙ ap reading same ∙ cancelled_read in
      let is : text ≡ codes "cancelled" = cc read in
      let other : notation (codes "cancelled") ≡ codes "cancelled" = subst (λ t. notation t ≡ codes "cancelled") is same in
      absurd (cc other),
)
