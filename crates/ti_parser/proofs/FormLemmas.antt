-- A printed number has one of the forms of its format.
use Rattle.std.proofs.Common.{◌≡◌, ◌≢◌, ℕ, zero, suc, ◌+◌, ◌-◌, ◌/◌, ◌%◌, ◌<◌, ◌≤◌, Bool, true, false, not, ◌&&◌, ◌||◌, List, [], ◌∷◌, ◌++◌, length, replicate, nat_eq, nat_lt, refl, sym, ◌∙◌, ap, subst, arith, append_assoc, length-append, ℤ, if◌then◌else◌}
use Rattle.std.proofs.lemmas.Bool.Decides.{nat_tests}
use Rattle.std.proofs.lemmas.List.{append-nil, length-replicate}
use Rattle.std.specs.Int.{cast_unsigned, w32}
use Rattle.std.specs.Fmt.{digit_glyph, digits, digits_onto}
use Rattle.std.specs.Prelude.{codes, ◌==◌}
use Rattle.ti_cap.specs.declared.language.Conversion.{Conversion}
use Rattle.ti_cap.specs.declared.language.Conversion.TheVariants.{Signed, Octal, LowerHex, UpperHex, Text}
use Rattle.ti_cap.specs.declared.language.Format.{Format}
use Rattle.ti_expand.specs.Printed.{alternate_prefix, amount, fill, fills_with_zeros, front_for, least_count, magnitude, octal_prefix, significant, with_front, with_zeros}
use Rattle.ti_parser.specs.Covers.{IsOf, is_one_of}
use Rattle.ti_parser.specs.inner.Forms.{AreBlanks, count_up, digit_bytes, is_filled, least_of, sign_of}

-- ---- texts of some bytes

pub of_both : (bytes xs ys : List ℕ) → IsOf bytes xs → IsOf bytes ys → IsOf bytes (xs ++ ys)
of_both bytes [] ys h g = g
of_both bytes (x ∷ xs) ys h g = (h.0, of_both bytes xs ys h.1 g)

pub of_same : (bytes : List ℕ) (n byte : ℕ) → is_one_of bytes byte ≡ true → IsOf bytes (replicate n byte)
of_same bytes zero byte h = tt
of_same bytes (suc n) byte h = (h, of_same bytes n byte h)

or_true : (a b : Bool) → b ≡ true → (a || b) ≡ true
or_true true b h = refl
or_true false b h = h

true_or : (a b : Bool) → a ≡ true → (a || b) ≡ true
true_or true b h = refl
true_or false b h = absurd (cc)

pub one_left : (xs ys : List ℕ) (b : ℕ) → is_one_of xs b ≡ true → is_one_of (xs ++ ys) b ≡ true
one_left [] ys b h = absurd (cc)
one_left (x ∷ xs) ys b h = by (nat_eq b x) (is_one_of xs b) h (one_left xs ys b)
  where
    by : (a c : Bool) → (a || c) ≡ true → (c ≡ true → is_one_of (xs ++ ys) b ≡ true) → (a || is_one_of (xs ++ ys) b) ≡ true
    by true c e f = refl
    by false c e f = f e

pub one_right : (xs ys : List ℕ) (b : ℕ) → is_one_of ys b ≡ true → is_one_of (xs ++ ys) b ≡ true
one_right [] ys b h = h
one_right (x ∷ xs) ys b h = or_true (nat_eq b x) (is_one_of (xs ++ ys) b) (one_right xs ys b h)

pub in_count : (low n b : ℕ) → low ≤ b → b < low + n → is_one_of (count_up low n) b ≡ true
in_count low zero b h g = absurd (omega arith)
in_count low (suc n) b h g = first_or (nat_eq b low) (is_one_of (count_up (suc low) n) b) refl (λ e. in_count (suc low) n b (grind (arith, nat_tests, e)) (omega arith))
  where
    first_or : (t u : Bool) → nat_eq b low ≡ t → (nat_eq b low ≡ false → u ≡ true) → (t || u) ≡ true
    first_or true u e f = refl
    first_or false u e f = f e

-- ---- digits

module _ (bytes : List ℕ) (base : ℕ) (upper : Bool) (some : 0 < base) (each : (d : ℕ) → d < base → is_one_of bytes (digit_glyph upper d) ≡ true) where
  onto_of : (k n : ℕ) (acc : List ℕ) → IsOf bytes acc → IsOf bytes (digits_onto k base upper n acc)
  onto_of zero n acc h = h
  onto_of (suc k) n acc h =
      by (n / base == 0) (digit_glyph upper (n % base) ∷ acc) (digits_onto k base upper (n / base) (digit_glyph upper (n % base) ∷ acc)) now (onto_of k (n / base) (digit_glyph upper (n % base) ∷ acc) now)
    where
      now : IsOf bytes (digit_glyph upper (n % base) ∷ acc)
      now = (each (n % base) (omega arith), h)

      by : (t : Bool) (xs ys : List ℕ) → IsOf bytes xs → IsOf bytes ys → IsOf bytes (if t then xs else ys)
      by true xs ys a b = a
      by false xs ys a b = b

  significant_of : (n : ℕ) → IsOf bytes (significant base upper n)
  unfolding digits
  significant_of n = by (n == 0) (digits_onto 64 base upper n []) (onto_of 64 n [] tt)
    where
      by : (t : Bool) (xs : List ℕ) → IsOf bytes xs → IsOf bytes (if t then [] else xs)
      by true xs a = tt
      by false xs a = a

low_glyph : (upper : Bool) (d : ℕ) → d < 10 → digit_glyph upper d ≡ 48 + d
low_glyph upper d h = grind (arith, nat_tests)

small_glyph : (d : ℕ) → ¬ (d < 10) → digit_glyph false d ≡ 87 + d
small_glyph d h = grind (arith, nat_tests)

big_glyph : (d : ℕ) → ¬ (d < 10) → digit_glyph true d ≡ 55 + d
big_glyph d h = grind (arith, nat_tests)

in_decimal : (upper : Bool) (d : ℕ) → d < 10 → is_one_of (count_up 48 10) (digit_glyph upper d) ≡ true
in_decimal upper d h = ap (is_one_of (count_up 48 10)) (low_glyph upper d h) ∙ in_count 48 10 (48 + d) (omega arith) (omega arith)

-- a digit of 16, whether below 10 or not
in_hex : (bytes : List ℕ) (upper : Bool) (more : (d : ℕ) → d < 16 → ¬ (d < 10) → is_one_of bytes (digit_glyph upper d) ≡ true) (d : ℕ) → d < 16
    → is_one_of (count_up 48 10 ++ bytes) (digit_glyph upper d) ≡ true
in_hex bytes upper more d h = by (nat_lt d 10) refl
  where
    by : (t : Bool) → nat_lt d 10 ≡ t → is_one_of (count_up 48 10 ++ bytes) (digit_glyph upper d) ≡ true
    by true e = one_left (count_up 48 10) bytes (digit_glyph upper d) (in_decimal upper d (grind (arith, nat_tests, e)))
    by false e = one_right (count_up 48 10) bytes (digit_glyph upper d) (more d h (grind (arith, nat_tests, e)))

in_small : (d : ℕ) → d < 16 → ¬ (d < 10) → is_one_of (count_up 97 6) (digit_glyph false d) ≡ true
in_small d h g = ap (is_one_of (count_up 97 6)) (small_glyph d g) ∙ in_count 97 6 (87 + d) (omega arith) (omega arith)

in_big : (d : ℕ) → d < 16 → ¬ (d < 10) → is_one_of (count_up 65 6) (digit_glyph true d) ≡ true
in_big d h g = ap (is_one_of (count_up 65 6)) (big_glyph d g) ∙ in_count 65 6 (55 + d) (omega arith) (omega arith)

pub magnitude_of : (c : Conversion) (alternate : Bool) (n : ℤ) → IsOf (digit_bytes c alternate) (magnitude c n)
magnitude_of Signed alternate n = significant_of (count_up 48 10) 10 false (omega arith) (in_decimal false) (amount Signed n)
magnitude_of Octal alternate n = significant_of (count_up 48 10) 8 false (omega arith) (λ d h. in_decimal false d (omega arith)) (amount Octal n)
magnitude_of LowerHex false n = significant_of (digit_bytes LowerHex false) 16 false (omega arith) (in_hex (count_up 97 6) false in_small) (amount LowerHex n)
magnitude_of LowerHex true n =
    significant_of (digit_bytes LowerHex true) 16 false (omega arith)
    (in_hex (count_up 97 6 ++ codes "x") false (λ d h g. one_left (count_up 97 6) (codes "x") (digit_glyph false d) (in_small d h g))) (amount LowerHex n)
magnitude_of UpperHex false n = significant_of (digit_bytes UpperHex false) 16 true (omega arith) (in_hex (count_up 65 6) true in_big) (amount UpperHex n)
magnitude_of UpperHex true n =
    significant_of (digit_bytes UpperHex true) 16 true (omega arith)
    (in_hex (count_up 65 6 ++ codes "X") true (λ d h g. one_left (count_up 65 6) (codes "X") (digit_glyph true d) (in_big d h g))) (amount UpperHex n)
magnitude_of Text alternate n = tt

zero_in : (c : Conversion) (alternate : Bool) → is_one_of (digit_bytes c alternate) 48 ≡ true
zero_in Signed a = refl
zero_in Octal a = refl
zero_in LowerHex false = refl
zero_in LowerHex true = refl
zero_in UpperHex false = refl
zero_in UpperHex true = refl
zero_in Text a = refl

-- zeros before digits
zeros_of : (bytes : List ℕ) (count : ℕ) (ds : List ℕ) → is_one_of bytes 48 ≡ true → IsOf bytes ds → IsOf bytes (with_zeros count ds)
zeros_of bytes count ds z h = of_both bytes (replicate (count - length ds) 48) ds (of_same bytes (count - length ds) 48 z) h

zeros_long : (count : ℕ) (ds : List ℕ) → count ≤ length (with_zeros count ds)
zeros_long count ds = omega (arith, length-append (replicate (count - length ds) 48) ds, length-replicate {A = ℕ} (count - length ds) 48)

zeros_longer : (count : ℕ) (ds : List ℕ) → length ds ≤ length (with_zeros count ds)
zeros_longer count ds = omega (arith, length-append (replicate (count - length ds) 48) ds)

-- the prefix that is no sign
abbrev prefix : Conversion → Format → ℤ → List ℕ → List ℕ
prefix c f n ds = if f.alternate then alternate_prefix c n ds else []

octal_prefix_of : (ds : List ℕ) → IsOf (count_up 48 10) (octal_prefix ds)
octal_prefix_of [] = (refl, tt)
octal_prefix_of (d ∷ ds) = by (d == 48)
  where
    by : (t : Bool) → IsOf (count_up 48 10) (if t then [] else codes "0")
    by true = tt
    by false = (refl, tt)

none_or : (bytes xs : List ℕ) (t : Bool) → IsOf bytes xs → IsOf bytes (if t then [] else xs)
none_or bytes xs true h = tt
none_or bytes xs false h = h

prefix_of : (c : Conversion) (f : Format) (n : ℤ) (ds : List ℕ) → IsOf (digit_bytes c f.alternate) (prefix c f n ds)
prefix_of c f n ds = by f.alternate
  where
    by : (t : Bool) → IsOf (digit_bytes c t) (if t then alternate_prefix c n ds else [])
    by false = tt
    by true = each c
      where
        each : (k : Conversion) → IsOf (digit_bytes k true) (alternate_prefix k n ds)
        each Signed = tt
        each Octal = octal_prefix_of ds
        each LowerHex = none_or (digit_bytes LowerHex true) (codes "0x") (cast_unsigned w32 n == 0) (refl, (refl, tt))
        each UpperHex = none_or (digit_bytes UpperHex true) (codes "0X") (cast_unsigned w32 n == 0) (refl, (refl, tt))
        each Text = tt

-- ---- the whole

pub record NumberParts (c : Conversion) (f : Format) (n : ℤ) (text : List ℕ) : Type 0 where
  pub before : List ℕ
  pub digits : List ℕ
  pub after : List ℕ
  pub joined : text ≡ before ++ (sign_of c f n ++ (digits ++ after))
  pub before_of : AreBlanks (is_filled f && not f.left) before
  pub digits_of : IsOf (digit_bytes c f.alternate) digits
  pub many : least_of c f ≤ length digits
  pub after_of : AreBlanks (is_filled f && f.left) after

-- what fills a body
record Filled (f : Format) (body : List ℕ) : Type 0 where
  before : List ℕ
  after : List ℕ
  joined : fill f body ≡ before ++ (body ++ after)
  before_of : AreBlanks (is_filled f && not f.left) before
  after_of : AreBlanks (is_filled f && f.left) after

no_blanks : (t : Bool) → AreBlanks (t && false) []
no_blanks true = refl
no_blanks false = refl

all_blanks : (t : Bool) (n : ℕ) → (t ≡ false → n ≡ 0) → AreBlanks (t && true) (replicate n 32)
all_blanks true n h = of_same (32 ∷ []) n 32 refl
all_blanks false n h = ap (λ k. replicate k 32) (h refl)

filled : (f : Format) (body : List ℕ) → (is_filled f ≡ false → f.width ≤ length body) → Filled f body
filled f body low = by f.left refl
  where
    none : is_filled f ≡ false → f.width - length body ≡ 0
    none e = let h : f.width ≤ length body = low e in omega arith

    by : (t : Bool) → f.left ≡ t → Filled f body
    by true e = record {
      before = [];
      after = replicate (f.width - length body) 32;
      joined = ap (λ t. if t then body ++ replicate (f.width - length body) 32 else replicate (f.width - length body) 32 ++ body) e;
      before_of = let P : Bool → Type 0 = λ t. AreBlanks (is_filled f && not t) [] in subst P (sym e) (no_blanks (is_filled f));
      after_of = let P : Bool → Type 0 = λ t. AreBlanks (is_filled f && t) (replicate (f.width - length body) 32) in subst P (sym e) (all_blanks (is_filled f) (f.width - length body) none);
    }
    by false e = record {
      before = replicate (f.width - length body) 32;
      after = [];
      joined = ap (λ t. if t then body ++ replicate (f.width - length body) 32 else replicate (f.width - length body) 32 ++ body) e
          ∙ ap (λ x. replicate (f.width - length body) 32 ++ x) (sym (append-nil body));
      before_of = let P : Bool → Type 0 = λ t. AreBlanks (is_filled f && not t) (replicate (f.width - length body) 32) in subst P (sym e) (all_blanks (is_filled f) (f.width - length body) none);
      after_of = let P : Bool → Type 0 = λ t. AreBlanks (is_filled f && t) [] in subst P (sym e) (no_blanks (is_filled f));
    }

-- the digits after a front, with the zeros of the width
abbrev middle : Format → List ℕ → List ℕ → List ℕ
middle f front ds = if fills_with_zeros f then with_zeros (f.width - length front) ds else ds

middle_of : (bytes : List ℕ) (f : Format) (front ds : List ℕ) → is_one_of bytes 48 ≡ true → IsOf bytes ds → IsOf bytes (middle f front ds)
middle_of bytes f front ds z h = by (fills_with_zeros f)
  where
    by : (t : Bool) → IsOf bytes (if t then with_zeros (f.width - length front) ds else ds)
    by true = zeros_of bytes (f.width - length front) ds z h
    by false = h

middle_longer : (f : Format) (front ds : List ℕ) → length ds ≤ length (middle f front ds)
middle_longer f front ds = by (fills_with_zeros f)
  where
    by : (t : Bool) → length ds ≤ length (if t then with_zeros (f.width - length front) ds else ds)
    by true = zeros_longer (f.width - length front) ds
    by false = omega arith

-- a number that spaces may not fill is as long as the width
body_long : (f : Format) (front ds : List ℕ) → least_count f.precision ≤ length ds → is_filled f ≡ false → f.width ≤ length (front ++ middle f front ds)
body_long f front ds many e = by (nat_lt (least_count f.precision) f.width) (fills_with_zeros f) refl refl e
  where
    by : (a b : Bool) → nat_lt (least_count f.precision) f.width ≡ a → fills_with_zeros f ≡ b → (a && not b) ≡ false → f.width ≤ length (front ++ middle f front ds)
    by false b h g k =
        let low : f.width ≤ least_count f.precision = grind (arith, nat_tests, h) in
        omega (arith, length-append front (middle f front ds), middle_longer f front ds)
    by true true h g k =
        let same : middle f front ds ≡ with_zeros (f.width - length front) ds = ap (λ t. if t then with_zeros (f.width - length front) ds else ds) g in
        omega (arith, length-append front (middle f front ds), ap length same, zeros_long (f.width - length front) ds)
    by true false h g k = absurd (cc)

abbrev ds_of : Conversion → Format → ℤ → List ℕ
ds_of c f n = with_zeros (least_count f.precision) (magnitude c n)

-- a number by the conversion
abbrev print_by : Conversion → Format → ℤ → List ℕ
print_by c f n = fill f (with_front f (front_for c f n (ds_of c f n)) (ds_of c f n))

signed_parts : (f : Format) (n : ℤ) → NumberParts Signed f n (print_by Signed f n)
signed_parts f n =
    let ds : List ℕ = ds_of Signed f n in
    let front : List ℕ = sign_of Signed f n in
    let many : least_count f.precision ≤ length ds = zeros_long (least_count f.precision) (magnitude Signed n) in
    let whole : Filled f (front ++ middle f front ds) = filled f (front ++ middle f front ds) (body_long f front ds many) in
    record {
      before = whole.before;
      digits = middle f front ds;
      after = whole.after;
      joined = whole.joined ∙ ap (λ x. whole.before ++ x) (append_assoc front (middle f front ds) whole.after);
      before_of = whole.before_of;
      digits_of = middle_of (digit_bytes Signed f.alternate) f front ds (zero_in Signed f.alternate)
          (zeros_of (digit_bytes Signed f.alternate) (least_count f.precision) (magnitude Signed n) (zero_in Signed f.alternate) (magnitude_of Signed f.alternate n));
      many = omega (arith, middle_longer f front ds);
      after_of = whole.after_of;
    }

-- a prefix and digits are as many as they must be
plain_long : (c : Conversion) (f : Format) (front ds : List ℕ) → least_count f.precision ≤ length ds → least_of c f ≤ length (front ++ middle f front ds)
plain_long c f front ds many = by c
  where
    long : (t : Bool) → fills_with_zeros f ≡ t → (if t then f.width else least_count f.precision) ≤ length (front ++ middle f front ds)
    long true g =
        let same : middle f front ds ≡ with_zeros (f.width - length front) ds = ap (λ t. if t then with_zeros (f.width - length front) ds else ds) g in
        omega (arith, length-append front (middle f front ds), ap length same, zeros_long (f.width - length front) ds)
    long false g = omega (arith, length-append front (middle f front ds), middle_longer f front ds)

    by : (k : Conversion) → least_of k f ≤ length (front ++ middle f front ds)
    by Signed = omega (arith, length-append front (middle f front ds), middle_longer f front ds)
    by Octal = long (fills_with_zeros f) refl
    by LowerHex = long (fills_with_zeros f) refl
    by UpperHex = long (fills_with_zeros f) refl
    by Text = long (fills_with_zeros f) refl

plain_parts : (c : Conversion) (f : Format) (n : ℤ) → sign_of c f n ≡ [] → front_for c f n (ds_of c f n) ≡ prefix c f n (ds_of c f n) → NumberParts c f n (print_by c f n)
plain_parts c f n none is =
    let ds : List ℕ = ds_of c f n in
    let front : List ℕ = prefix c f n ds in
    let bytes : List ℕ = digit_bytes c f.alternate in
    let many : least_count f.precision ≤ length ds = zeros_long (least_count f.precision) (magnitude c n) in
    let whole : Filled f (front ++ middle f front ds) = filled f (front ++ middle f front ds) (body_long f front ds many) in
    record {
      before = whole.before;
      digits = front ++ middle f front ds;
      after = whole.after;
      joined = ap (λ x. fill f (with_front f x ds)) is ∙ whole.joined ∙ ap (λ x. whole.before ++ (x ++ ((front ++ middle f front ds) ++ whole.after))) (sym none);
      before_of = whole.before_of;
      digits_of = of_both bytes front (middle f front ds) (prefix_of c f n ds)
          (middle_of bytes f front ds (zero_in c f.alternate) (zeros_of bytes (least_count f.precision) (magnitude c n) (zero_in c f.alternate) (magnitude_of c f.alternate n)));
      many = plain_long c f front ds many;
      after_of = whole.after_of;
    }

pub number_parts : (c : Conversion) (f : Format) (n : ℤ) → c ≢ Text → NumberParts c f n (print_by c f n)
number_parts Signed f n h = signed_parts f n
number_parts Octal f n h = plain_parts Octal f n refl refl
number_parts LowerHex f n h = plain_parts LowerHex f n refl refl
number_parts UpperHex f n h = plain_parts UpperHex f n refl refl
number_parts Text f n h = absurd (h refl)
