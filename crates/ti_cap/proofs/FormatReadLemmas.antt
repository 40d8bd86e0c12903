-- What is read as a format is spelled so.
use Rattle.std.proofs.Common.{◌≡◌, ℕ, suc, ◌+◌, inl, inr, List, [], ◌∷◌, ◌++◌, length, refl, sym, ◌∙◌, ap, arith, Ok, nat_eq, nat_lt, append_assoc, length-append}
use Rattle.std.specs.Prelude.{Option, Some, None}
use Rattle.std.proofs.lemmas.Bool.{eqb-true}
use Rattle.ti_base.specs.Limits.{greatest_width}
use Rattle.ti_cap.specs.declared.language.Token.{Token}
use Rattle.ti_cap.specs.declared.language.Token.TheVariants.{Print}
use Rattle.ti_cap.specs.declared.language.Format.{Format}
use Rattle.ti_cap.specs.declared.language.Conversion.{Conversion}
use Rattle.ti_cap.specs.Spelling.{number_of, AreFlags, SpellsWidth, SpellsPrecision, SpellsFormat, conversion_letter}
use Rattle.ti_cap.specs.inner.Lexer.{front, rest, is_digit, is_plain_flag, is_flag, is_colon, conversions, conversion_of, with_conversion, with_flags, letter_read, precision_read, width_read, format_read}
use Rattle.ti_cap.proofs.ChoiceLemmas.{chosen, letter_found, pair_of}
use Rattle.ti_cap.proofs.FrontLemmas.{front_and_rest, front_passes}
use Rattle.ti_cap.proofs.FormatPartsLemmas.{with_precision, with_width, fits, NoZero, flags_follow, plain_flag_other, flag_other, width_spelled, passes_digits, passes_plain_flags, passes_flags}

-- what is read as a letter
record LetterFront (f : Format) (n : ℕ) (bytes : List ℕ) (token : Token) (len : ℕ) : Type 0 where
  conversion : Conversion
  tail : List ℕ
  splits : bytes ≡ conversion_letter conversion ∷ tail
  is : token ≡ Print (record f { conversion = conversion })
  long : len ≡ n + 1

letter_sound : (f : Format) (n : ℕ) (bytes : List ℕ) (token : Token) (len : ℕ) → letter_read f n bytes ≡ Ok (token, len) → LetterFront f n bytes token len
letter_sound f n [] token len e = absurd (cc)
letter_sound f n (x ∷ xs) token len e = by_letter (conversion_of x) refl e
  where
    by_letter : (o : Option Conversion) → conversion_of x ≡ o → with_conversion f (n + 1) o ≡ Ok (token, len) → LetterFront f n (x ∷ xs) token len
    by_letter None found e = absurd (cc)
    by_letter (Some c) found e =
        let same : (Print (record f { conversion = c }), n + 1) ≡ (token, len) = pair_of _ _ _ _ refl refl e in
        record { conversion = c; tail = xs; splits = ap (λ y. y ∷ xs) (letter_found conversion_letter conversions x c found); is = sym (ap (λ q. q.0) same); long = sym (ap (λ q. q.1) same) }

-- what is read from the precision on
record PrecisionFront (f : Format) (n : ℕ) (bytes : List ℕ) (token : Token) (len : ℕ) : Type 0 where
  precision : Option ℕ
  spelling : List ℕ
  conversion : Conversion
  tail : List ℕ
  spells : SpellsPrecision precision spelling
  splits : bytes ≡ spelling ++ conversion_letter conversion ∷ tail
  is : token ≡ Print (with_precision f precision conversion)
  long : len ≡ n + length spelling + 1

precision_sound : (f : Format) (n : ℕ) (bytes : List ℕ) (token : Token) (len : ℕ) → f.precision ≡ None → precision_read f n bytes ≡ Ok (token, len)
    → PrecisionFront f n bytes token len
precision_sound f n [] token len none e = absurd (cc)
precision_sound f n (c ∷ cs) token len none e =
    elim (chosen (nat_eq c 46) e) [
      | inl (t, e) ↦ elim (chosen (nat_lt greatest_width (number_of (front is_digit cs))) e) [
        | inl (large, e) ↦ absurd (cc)
        | inr (le, e) ↦
            let p : ℕ = number_of (front is_digit cs) in
            let l : LetterFront (record f { precision = Some p }) (n + 1 + length (front is_digit cs)) (rest is_digit cs) token len =
            letter_sound (record f { precision = Some p }) (n + 1 + length (front is_digit cs)) (rest is_digit cs) token len e in
            record {
              precision = Some p;
              spelling = 46 ∷ front is_digit cs;
              conversion = l.conversion;
              tail = l.tail;
              spells = (front is_digit cs, passes_digits (front is_digit cs) (front_passes is_digit cs), refl, fits p le, refl);
              splits = cons_at c 46 cs (front is_digit cs ++ conversion_letter l.conversion ∷ l.tail) (eqb-true c 46 t)
                  (front_and_rest is_digit cs ∙ ap (λ x. front is_digit cs ++ x) l.splits);
              is = l.is;
              long = l.long ∙ omega arith;
            }
      ]
      | inr (t, e) ↦
          let l : LetterFront f n (c ∷ cs) token len = letter_sound f n (c ∷ cs) token len e in
          record {
            precision = None;
            spelling = [];
            conversion = l.conversion;
            tail = l.tail;
            spells = refl;
            splits = l.splits;
            is = l.is ∙ ap (λ o. Print (with_precision f o l.conversion)) none;
            long = l.long ∙ omega arith;
          }
    ]
  where
    cons_at : (x y : ℕ) (xs ys : List ℕ) → x ≡ y → xs ≡ ys → x ∷ xs ≡ y ∷ ys
    cons_at x y xs ys p q = cc

-- what is read from the width on
record WidthFront (f : Format) (n : ℕ) (bytes : List ℕ) (token : Token) (len : ℕ) : Type 0 where
  size : ℕ
  width : List ℕ
  precision : Option ℕ
  spelling : List ℕ
  conversion : Conversion
  tail : List ℕ
  spells_width : SpellsWidth size width
  spells : SpellsPrecision precision spelling
  splits : bytes ≡ width ++ (spelling ++ conversion_letter conversion ∷ tail)
  is : token ≡ Print (with_width f size precision conversion)
  long : len ≡ n + length width + length spelling + 1

width_sound : (f : Format) (n : ℕ) (bytes : List ℕ) (token : Token) (len : ℕ) → f.precision ≡ None → NoZero bytes → width_read f n bytes ≡ Ok (token, len)
    → WidthFront f n bytes token len
width_sound f n bytes token len none other e =
    let w : ℕ = number_of (front is_digit bytes) in
    elim (chosen (nat_lt greatest_width (number_of (front is_digit bytes))) e) [
      | inl (large, e) ↦ absurd (cc)
      | inr (le, e) ↦
          let l : PrecisionFront (record f { width = w }) (n + length (front is_digit bytes)) (rest is_digit bytes) token len =
          precision_sound (record f { width = w }) (n + length (front is_digit bytes)) (rest is_digit bytes) token len none e in
          record {
            size = w;
            width = front is_digit bytes;
            precision = l.precision;
            spelling = l.spelling;
            conversion = l.conversion;
            tail = l.tail;
            spells_width = width_spelled bytes other (fits w le);
            spells = l.spells;
            splits = front_and_rest is_digit bytes ∙ ap (λ x. front is_digit bytes ++ x) l.splits;
            is = l.is;
            long = l.long;
          }
    ]

-- a format at the front of some bytes, and what follows it
pub record FormatFront (bytes : List ℕ) (token : Token) (len : ℕ) : Type 0 where
  pub format : Format
  pub spelling : List ℕ
  pub tail : List ℕ
  pub spells : SpellsFormat format spelling
  pub splits : bytes ≡ spelling ++ tail
  pub is : token ≡ Print format
  pub long : len ≡ suc (length spelling)

-- the parts of a format's spelling in a row
in_row : (a b c d t : List ℕ) → a ++ (b ++ (c ++ (d ++ t))) ≡ (((a ++ b) ++ c) ++ d) ++ t
in_row a b c d t = sym (simp append_assoc)

row_length : (a b c : List ℕ) (x : ℕ) → suc (length (a ++ b ++ c ++ x ∷ [])) ≡ 1 + length a + length b + length c + 1
row_length a b c x = omega (arith, length-append (a ++ b ++ c) (x ∷ []), length-append (a ++ b) c, length-append a b)

-- flags and what is read after them
flags_front : (bytes flags more : List ℕ) (n : ℕ) (token : Token) (len : ℕ) → AreFlags flags → bytes ≡ flags ++ more → n ≡ 1 + length flags
    → WidthFront (with_flags flags) n more token len → FormatFront bytes token len
flags_front bytes flags more n token len are splits count l =
    record {
      format = with_width (with_flags flags) l.size l.precision l.conversion;
      spelling = flags ++ l.width ++ l.spelling ++ conversion_letter l.conversion ∷ [];
      tail = l.tail;
      spells = (flags, l.width, l.spelling, are, (refl, refl, refl, refl, refl), l.spells_width, l.spells, refl);
      splits = splits ∙ ap (λ x. flags ++ x) l.splits ∙ in_row flags l.width l.spelling (conversion_letter l.conversion ∷ []) l.tail;
      is = l.is;
      long = l.long ∙ ap (λ m. m + length l.width + length l.spelling + 1) count ∙ sym (row_length flags l.width l.spelling (conversion_letter l.conversion));
    }

-- what is read as a format is spelled so
pub format_sound : (bytes : List ℕ) (token : Token) (len : ℕ) → format_read bytes ≡ Ok (token, len) → FormatFront bytes token len
unfolding format_read
format_sound [] token len e = absurd (cc)
format_sound (c ∷ cs) token len e =
    elim (chosen (is_colon c) e) [
      | inl (t, e) ↦
          let fl : List ℕ = front is_flag cs in
          flags_front (c ∷ cs) (58 ∷ fl) (rest is_flag cs) (2 + length fl) token len (inr (fl, passes_flags fl (front_passes is_flag cs), refl))
          (ap (λ x. x ∷ cs) (eqb-true c 58 t) ∙ ap (λ x. 58 ∷ x) (front_and_rest is_flag cs)) (omega arith)
          (width_sound (with_flags fl) (2 + length fl) (rest is_flag cs) token len refl (flags_follow is_flag flag_other cs) e)
      | inr (t, e) ↦
          let fl : List ℕ = front is_plain_flag (c ∷ cs) in
          flags_front (c ∷ cs) fl (rest is_plain_flag (c ∷ cs)) (1 + length fl) token len (inl (passes_plain_flags fl (front_passes is_plain_flag (c ∷ cs))))
          (front_and_rest is_plain_flag (c ∷ cs)) refl
          (width_sound (with_flags fl) (1 + length fl) (rest is_plain_flag (c ∷ cs)) token len refl (flags_follow is_plain_flag plain_flag_other (c ∷ cs)) e)
    ]
