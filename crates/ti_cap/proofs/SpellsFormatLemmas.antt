-- A format's spelling is read again: flags, width, precision and letter, each as far as its bytes go.
use Rattle.std.proofs.Common.{◌≡◌, ◌≢◌, ℕ, suc, ◌+◌, ◌≤◌, inl, inr, List, [], ◌∷◌, ◌++◌, length, refl, sym, ◌∙◌, ap, subst, arith, Ok, Err, nat_eq, nat_lt, cond, Bool, true, false}
use Rattle.std.specs.Prelude.{Option, Some, None}
use Rattle.std.proofs.lemmas.Grind.{common_steps}
use Rattle.std.specs.List.{AllByRecursion}
use Rattle.ti_base.specs.Limits.{greatest_width}
use Rattle.ti_cap.specs.declared.language.Token.TheVariants.{Print}
use Rattle.ti_cap.specs.declared.language.Format.{Format}
use Rattle.ti_cap.specs.declared.language.Conversion.{Conversion}
use Rattle.ti_cap.specs.declared.language.Conversion.TheVariants.{Signed, Octal, LowerHex, UpperHex, Text}
use Rattle.ti_cap.specs.declared.language.CapFault.TheVariants.{BadFormat}
use Rattle.ti_cap.specs.Spelling.{IsDigit, number_of, IsPlainFlag, IsFlag, AreFlags, HasFlags, SpellsWidth, SpellsPrecision, conversion_letter}
use Rattle.ti_cap.specs.inner.Lexer.{Lexeme, front, rest, is_digit, is_plain_flag, is_flag, is_colon, conversion_of, with_conversion, with_flags, letter_read, precision_read, width_read, format_read}
use Rattle.ti_cap.proofs.FrontLemmas.{Stops, AllPass, front_stops, rest_stops}
use Rattle.ti_cap.proofs.FormatPartsLemmas.{with_precision, with_width}

abbrev printed : Format → ℕ → Lexeme
printed f n = Ok (Print f, n)

digits_pass : (ds : List ℕ) → AllByRecursion IsDigit ds → AllPass is_digit ds
digits_pass [] h = tt
digits_pass (d ∷ ds) h = (grind (arith, common_steps, h.0), digits_pass ds h.1)

letter_is : (c : Conversion) → conversion_of (conversion_letter c) ≡ Some c
letter_is Signed = refl
letter_is Octal = refl
letter_is LowerHex = refl
letter_is UpperHex = refl
letter_is Text = refl

-- the letter is read again
letter_again : (f : Format) (c : Conversion) (t : List ℕ) (n : ℕ) → letter_read f n (conversion_letter c ∷ t) ≡ printed (record f { conversion = c }) (n + 1)
letter_again f c t n = ap (λ o. with_conversion f (n + 1) o) (letter_is c)

letter_stops : (c : Conversion) (t : List ℕ) → Stops is_digit (conversion_letter c ∷ t)
letter_stops Signed t = refl
letter_stops Octal t = refl
letter_stops LowerHex t = refl
letter_stops UpperHex t = refl
letter_stops Text t = refl

letter_no_dot : (c : Conversion) → nat_eq (conversion_letter c) 46 ≡ false
letter_no_dot Signed = refl
letter_no_dot Octal = refl
letter_no_dot LowerHex = refl
letter_no_dot UpperHex = refl
letter_no_dot Text = refl

small : (n : ℕ) → n ≤ greatest_width → nat_lt greatest_width n ≡ false
small n h = grind (arith, common_steps)

-- the precision and the letter are read again
precision_again : (f : Format) (o : Option ℕ) (c : Conversion) (pr t : List ℕ) (n : ℕ) → f.precision ≡ None → SpellsPrecision o pr
    → precision_read f n (pr ++ conversion_letter c ∷ t) ≡ printed (with_precision f o c) (n + length pr + 1)
precision_again f None c pr t n none is =
    rw is (ap (λ b. cond b (read_on t) (letter_read f n (conversion_letter c ∷ t))) (letter_no_dot c)
    ∙ letter_again f c t n
    ∙ ap (λ m. printed (record f { conversion = c }) m) (omega arith)
    ∙ ap (λ o. printed (with_precision f o c) (n + length {A = ℕ} [] + 1)) none)
  where
    read_on : List ℕ → Lexeme
    read_on cs =
        cond (nat_lt greatest_width (number_of (front is_digit cs))) (Err BadFormat)
        (letter_read (record f { precision = Some (number_of (front is_digit cs)) }) (n + 1 + length (front is_digit cs)) (rest is_digit cs))
precision_again f (Some p) c pr t n none (digits, all, value, le, is) =
    let end : List ℕ = conversion_letter c ∷ t in
    rw is (ap (λ x. read_on x (rest is_digit (digits ++ end))) (front_stops is_digit digits end (digits_pass digits all) (letter_stops c t))
    ∙ ap (λ x. read_on digits x) (rest_stops is_digit digits end (digits_pass digits all) (letter_stops c t))
    ∙ ap (λ b. cond b (Err BadFormat) (letter_read (record f { precision = Some (number_of digits) }) (n + 1 + length digits) end)) (small (number_of digits) (omega arith))
    ∙ letter_again (record f { precision = Some (number_of digits) }) c t (n + 1 + length digits)
    ∙ ap (λ q. printed (with_precision f (Some q) c) (n + 1 + length digits + 1)) value
    ∙ ap (λ m. printed (with_precision f (Some p) c) m) (omega arith))
  where
    read_on : List ℕ → List ℕ → Lexeme
    read_on fr re = cond (nat_lt greatest_width (number_of fr)) (Err BadFormat) (letter_read (record f { precision = Some (number_of fr) }) (n + 1 + length fr) re)

no_leading : (w : ℕ) (width : List ℕ) → SpellsWidth w width → AllByRecursion IsDigit width × (number_of width ≡ w) × (w ≤ greatest_width)
no_leading w [] h = (tt, sym h, omega arith)
no_leading w (c ∷ cs) h = (h.1, h.2, h.3)

precision_stops : (o : Option ℕ) (pr : List ℕ) (c : Conversion) (t : List ℕ) → SpellsPrecision o pr → Stops is_digit (pr ++ conversion_letter c ∷ t)
precision_stops None pr c t h = rw h (letter_stops c t)
precision_stops (Some p) pr c t (digits, all, value, le, is) = rw is refl

-- the width and what stands after it are read again
width_again : (f : Format) (w : ℕ) (o : Option ℕ) (c : Conversion) (width pr t : List ℕ) (n : ℕ) → f.precision ≡ None → SpellsWidth w width → SpellsPrecision o pr
    → width_read f n (width ++ (pr ++ conversion_letter c ∷ t)) ≡ printed (with_width f w o c) (n + length width + length pr + 1)
width_again f w o c width pr t n none sw sp =
    let d : AllByRecursion IsDigit width × (number_of width ≡ w) × (w ≤ greatest_width) = no_leading w width sw in
    let tail : List ℕ = pr ++ conversion_letter c ∷ t in
    let st : Stops is_digit (pr ++ conversion_letter c ∷ t) = precision_stops o pr c t sp in
    ap (λ x. read_on x (rest is_digit (width ++ tail))) (front_stops is_digit width tail (digits_pass width d.0) st)
    ∙ ap (λ x. read_on width x) (rest_stops is_digit width tail (digits_pass width d.0) st)
    ∙ ap (λ b. cond b (Err BadFormat) (precision_read (record f { width = number_of width }) (n + length width) tail)) (small (number_of width) (omega arith))
    ∙ ap (λ x. precision_read (record f { width = x }) (n + length width) tail) d.1
    ∙ precision_again (record f { width = w }) o c pr t (n + length width) none sp
  where
    read_on : List ℕ → List ℕ → Lexeme
    read_on fr re = cond (nat_lt greatest_width (number_of fr)) (Err BadFormat) (precision_read (record f { width = number_of fr }) (n + length fr) re)

-- what stands after the flags begins with none of these
tail_stops : (p : ℕ → Bool) → ((c : Conversion) → p (conversion_letter c) ≡ false) → p 46 ≡ false → ((c : ℕ) → c ≢ 48 → IsDigit c → p c ≡ false)
    → (f : Format) (width pr t : List ℕ) → SpellsWidth f.width width → SpellsPrecision f.precision pr → Stops p (width ++ (pr ++ conversion_letter f.conversion ∷ t))
tail_stops p letters dot digits f (c ∷ cs) pr t sw sp = digits c sw.0 sw.1.0
tail_stops p letters dot digits f [] pr t sw sp = go f.precision sp
  where
    go : (o : Option ℕ) → SpellsPrecision o pr → Stops p (pr ++ conversion_letter f.conversion ∷ t)
    go None h = rw h (letters f.conversion)
    go (Some q) (ds, all, value, le, is) = rw is dot

letter_no_flag : (c : Conversion) → is_flag (conversion_letter c) ≡ false
letter_no_flag Signed = refl
letter_no_flag Octal = refl
letter_no_flag LowerHex = refl
letter_no_flag UpperHex = refl
letter_no_flag Text = refl

letter_no_plain_flag : (c : Conversion) → is_plain_flag (conversion_letter c) ≡ false
letter_no_plain_flag Signed = refl
letter_no_plain_flag Octal = refl
letter_no_plain_flag LowerHex = refl
letter_no_plain_flag UpperHex = refl
letter_no_plain_flag Text = refl

letter_no_colon : (c : Conversion) → is_colon (conversion_letter c) ≡ false
letter_no_colon Signed = refl
letter_no_colon Octal = refl
letter_no_colon LowerHex = refl
letter_no_colon UpperHex = refl
letter_no_colon Text = refl

digit_no_flag : (c : ℕ) → c ≢ 48 → IsDigit c → is_flag c ≡ false
digit_no_flag c n h = grind (arith, common_steps, h.0, h.1)

digit_no_plain_flag : (c : ℕ) → c ≢ 48 → IsDigit c → is_plain_flag c ≡ false
digit_no_plain_flag c n h = grind (arith, common_steps, h.0, h.1)

digit_no_colon : (c : ℕ) → c ≢ 48 → IsDigit c → is_colon c ≡ false
digit_no_colon c n h = grind (arith, common_steps, h.0, h.1)

plain_flag_passes : (c : ℕ) → IsPlainFlag c → is_plain_flag c ≡ true
plain_flag_passes c (inl e) = rw e refl
plain_flag_passes c (inr (inl e)) = rw e refl
plain_flag_passes c (inr (inr e)) = rw e refl

plain_flag_no_colon : (c : ℕ) → IsPlainFlag c → is_colon c ≡ false
plain_flag_no_colon c (inl e) = rw e refl
plain_flag_no_colon c (inr (inl e)) = rw e refl
plain_flag_no_colon c (inr (inr e)) = rw e refl

flag_passes : (c : ℕ) → IsFlag c → is_flag c ≡ true
flag_passes c (inl e) = rw e refl
flag_passes c (inr (inl e)) = rw e refl
flag_passes c (inr (inr (inl e))) = rw e refl
flag_passes c (inr (inr (inr (inl e)))) = rw e refl
flag_passes c (inr (inr (inr (inr e)))) = rw e refl

flags_pass : (fl : List ℕ) → AllByRecursion IsFlag fl → AllPass is_flag fl
flags_pass [] h = tt
flags_pass (c ∷ fl) h = (flag_passes c h.0, flags_pass fl h.1)

plain_flags_pass : (fl : List ℕ) → AllByRecursion IsPlainFlag fl → AllPass is_plain_flag fl
plain_flags_pass [] h = tt
plain_flags_pass (c ∷ fl) h = (plain_flag_passes c h.0, plain_flags_pass fl h.1)

no_colon : (fl r : List ℕ) → AllByRecursion IsPlainFlag fl → Stops is_colon r → Stops is_colon (fl ++ r)
no_colon [] r h g = g
no_colon (c ∷ fl) r h g = plain_flag_no_colon c h.0

-- a format without a colon
plain_format : (bytes : List ℕ) → Stops is_colon bytes
    → format_read bytes ≡ width_read (with_flags (front is_plain_flag bytes)) (1 + length (front is_plain_flag bytes)) (rest is_plain_flag bytes)
unfolding format_read
plain_format [] h = absurd h
plain_format (c ∷ cs) h =
    ap (λ b. cond b (width_read (with_flags (front is_flag cs)) (2 + length (front is_flag cs)) (rest is_flag cs)) (width_read (with_flags (front is_plain_flag (c ∷ cs))) (1 + length (front is_plain_flag (c ∷ cs))) (rest is_plain_flag (c ∷ cs)))) h

-- and one with it
colon_format : (cs : List ℕ) → format_read (58 ∷ cs) ≡ width_read (with_flags (front is_flag cs)) (2 + length (front is_flag cs)) (rest is_flag cs)
unfolding format_read
colon_format cs = refl

same_format : (f : Format) (flags : List ℕ) → HasFlags f flags → with_width (with_flags flags) f.width f.precision f.conversion ≡ f
same_format f flags h = rw (sym h.0, sym h.1, sym h.2, sym h.3, sym h.4) refl

-- a format is read again, whatever follows
pub format_again : (f : Format) (flags width pr t : List ℕ) → AreFlags flags → HasFlags f flags → SpellsWidth f.width width → SpellsPrecision f.precision pr
    → format_read (flags ++ (width ++ (pr ++ conversion_letter f.conversion ∷ t))) ≡ Ok (Print f, 1 + length flags + length width + length pr + 1)
format_again f flags width pr t (inl plain) h sw sp =
    let tail : List ℕ = width ++ (pr ++ conversion_letter f.conversion ∷ t) in
    let st : Stops is_plain_flag (width ++ (pr ++ conversion_letter f.conversion ∷ t)) = tail_stops is_plain_flag letter_no_plain_flag refl digit_no_plain_flag f width pr t sw sp in
    plain_format (flags ++ tail) (no_colon flags tail plain (tail_stops is_colon letter_no_colon refl digit_no_colon f width pr t sw sp))
    ∙ ap (λ x. read_on x (rest is_plain_flag (flags ++ tail))) (front_stops is_plain_flag flags tail (plain_flags_pass flags plain) st)
    ∙ ap (λ x. read_on flags x) (rest_stops is_plain_flag flags tail (plain_flags_pass flags plain) st)
    ∙ width_again (with_flags flags) f.width f.precision f.conversion width pr t (1 + length flags) refl sw sp
    ∙ ap (λ x. printed x (1 + length flags + length width + length pr + 1)) (same_format f flags h)
  where
    read_on : List ℕ → List ℕ → Lexeme
    read_on fr re = width_read (with_flags fr) (1 + length fr) re
format_again f flags width pr t (inr (fl, all, is)) h sw sp =
    let tail : List ℕ = width ++ (pr ++ conversion_letter f.conversion ∷ t) in
    let st : Stops is_flag (width ++ (pr ++ conversion_letter f.conversion ∷ t)) = tail_stops is_flag letter_no_flag refl digit_no_flag f width pr t sw sp in
    let P : List ℕ → Type 0 = λ x. HasFlags f x in
    ap (λ x. format_read (x ++ tail)) is
    ∙ colon_format (fl ++ tail)
    ∙ ap (λ x. read_on x (rest is_flag (fl ++ tail))) (front_stops is_flag fl tail (flags_pass fl all) st)
    ∙ ap (λ x. read_on fl x) (rest_stops is_flag fl tail (flags_pass fl all) st)
    ∙ width_again (with_flags fl) f.width f.precision f.conversion width pr t (2 + length fl) refl sw sp
    ∙ ap (λ x. printed x (2 + length fl + length width + length pr + 1)) (same_format f fl (subst P is h))
    ∙ ap (λ m. printed f m) (longer (length fl) (length flags) (length width) (length pr) (ap length is))
  where
    longer : (a b c d : ℕ) → b ≡ suc a → 2 + a + c + d + 1 ≡ 1 + b + c + d + 1
    longer a b c d e = omega arith

    read_on : List ℕ → List ℕ → Lexeme
    read_on fr re = width_read (with_flags fr) (2 + length fr) re
