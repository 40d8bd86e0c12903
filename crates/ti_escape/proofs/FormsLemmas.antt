-- A text in a form: the length of hex, and that each character can be printed.
use Rattle.std.proofs.Common.{◌≡◌, ◌*◌, ◌/◌, ◌%◌, ◌<◌, ℕ, Bool, true, false, List, [], ◌∷◌, length, get_or, refl, arith}
use Rattle.std.specs.List.{list_all}
use Rattle.std.proofs.lemmas.Bool.{and_from, and_parts, ltb-true}
use Rattle.std.proofs.lemmas.List.Folds.{list_all_at}
use Rattle.hex.specs.Hex.{encode_lower, encode_with, lower_digits}
use Rattle.hex.proofs.HexLemmas.{length-encode_with}
use Rattle.ti_escape.specs.declared.form.Form.{Form}
use Rattle.ti_escape.specs.declared.form.Form.TheVariants as forms
use Rattle.ti_escape.specs.Forms.{formed, shown}
use Rattle.ti_escape.specs.Laws.{AreBytes, is_byte, is_label_char}
use Rattle.ti_escape.proofs.PrintableLemmas.{AreLabelChars, ArePrintable, is_printable_all, label_chars_printable}

pub hex_length : (text : List ℕ) → length (encode_lower text) ≡ 2 * length text
hex_length text = length-encode_with lower_digits text

digit_by : (n : ℕ) → n < 16 → (b : Bool) → is_label_char (get_or lower_digits n 0) ≡ b → b ≡ true
digit_by n low true e = refl
digit_by n low false e =
    let other : list_all is_label_char lower_digits ≡ false = list_all_at is_label_char lower_digits n 0 low e in
    absurd (cc other)

digit : (n : ℕ) → n < 16 → is_label_char (get_or lower_digits n 0) ≡ true
digit n low = digit_by n low (is_label_char (get_or lower_digits n 0)) refl

-- each character of hex can be printed and is no space
pub hex_label : (text : List ℕ) → AreBytes text → AreLabelChars (encode_lower text)
unfolding encode_with
hex_label [] all = refl
hex_label (byte ∷ rest) all =
    let (first, more) = and_parts (is_byte byte) (list_all is_byte rest) all in
    let small : byte < 256 = ltb-true byte 256 first in
    let (high, low) : (byte / 16 < 16) × (byte % 16 < 16) = (omega arith, omega arith) in
    and_from (is_label_char (get_or lower_digits (byte / 16) 0)) (list_all is_label_char (get_or lower_digits (byte % 16) 0 ∷ encode_lower rest)) (digit (byte / 16) high)
    (and_from (is_label_char (get_or lower_digits (byte % 16) 0)) (list_all is_label_char (encode_lower rest)) (digit (byte % 16) low) (hex_label rest more))

pub hex_printable : (text : List ℕ) → AreBytes text → ArePrintable (encode_lower text)
hex_printable text all = label_chars_printable (encode_lower text) (hex_label text all)

-- each character of a text in a form can be printed
pub formed_printable : (form : Form) (text : List ℕ) → AreBytes text → ArePrintable (formed form text)
formed_printable forms.Hex text all = hex_printable text all
formed_printable forms.Notation text all = is_printable_all text

pub shown_printable : (form : Form) (text : List ℕ) → AreBytes text → ArePrintable (shown form text)
shown_printable form [] all = refl
shown_printable form (byte ∷ rest) all = formed_printable form (byte ∷ rest) all
