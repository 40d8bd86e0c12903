-- What is printed is no longer than the format's size.
use Rattle.std.proofs.Common.{◌≡◌, ◌≢◌, ℕ, zero, suc, ◌+◌, ◌-◌, ◌^◌, ◌<◌, ◌≤◌, max, min, Bool, true, false, List, [], ◌∷◌, ◌++◌, length, replicate, refl, ap, arith, if◌then◌else◌, ◌==◌, ℤ, pos}
use Rattle.std.specs.Prelude.{unsigned_abs, Option, Some, None, negsuc, FitsSigned, codes}
use Rattle.std.specs.Int.{w32, cast_unsigned}
use Rattle.std.proofs.lemmas.Int.{ints}
use Rattle.std.proofs.lemmas.List.{length-append, length-replicate, length-take}
use Rattle.ti_cap.specs.declared.language.Format.{Format}
use Rattle.ti_cap.specs.declared.language.Conversion.{Conversion}
use Rattle.ti_cap.specs.declared.language.Conversion.TheVariants.{Signed, Octal, LowerHex, UpperHex, Text}
use Rattle.std.specs.Prelude.{unwrap_or}
use Rattle.ti_cap.specs.Sizes.{printed_text_size, format_size}
use Rattle.ti_expand.specs.Printed.{significant, least_count, magnitude, sign, octal_prefix, front_for, fill, with_front, fills_with_zeros, up_to_precision, print_of_number, print_of_text}
use Rattle.ti_expand.proofs.SignificantLemmas.{length-significant-le}

bits_small : (n : ℤ) → FitsSigned w32 n → cast_unsigned w32 n < 2 ^ 32
bits_small n h = omega (arith, ints)

abs_small : (n : ℤ) → FitsSigned w32 n → unsigned_abs n < 10 ^ 10
abs_small n h = omega (arith, ints)

least_small : (p : Option ℕ) → least_count p ≤ max 1 (unwrap_or p 0)
least_small None = omega arith
least_small (Some n) = omega arith

-- at most one byte stands before the digits of `d`
sign_by : (plus space : Bool) → length (if plus then codes "+" else (if space then codes " " else [])) ≤ 1
sign_by true space = omega arith
sign_by false true = omega arith
sign_by false false = omega arith

length-sign : (f : Format) (n : ℤ) → length (sign f n) ≤ 1
length-sign f (pos n) = sign_by f.plus f.space
length-sign f (negsuc n) = omega arith

prefix_by : (t : Bool) → length (if t then [] else codes "0") ≤ 1
prefix_by true = omega arith
prefix_by false = omega arith

length-octal_prefix : (ds : List ℕ) → length (octal_prefix ds) ≤ 1
length-octal_prefix [] = omega arith
length-octal_prefix (d ∷ ds) = prefix_by (d == 48)

-- zeros go up to the least count, so that a `0` is put before 11 digits at most
octal_fits : (alternate : Bool) (count least p : ℕ) (ds : List ℕ) → least ≤ max 1 p → length ds ≤ 11 → count ≡ least - length ds
    → length (if alternate then octal_prefix (replicate count 48 ++ ds) else []) + (count + length ds) ≤ max (if alternate then 12 else 11) p
octal_fits false count least p ds l d e = omega arith
octal_fits true zero least p ds l d e = let one : length (octal_prefix ds) ≤ 1 = length-octal_prefix ds in omega arith
octal_fits true (suc count) least p ds l d e = omega arith

hex_fits : (alternate t : Bool) (two : List ℕ) (count least p : ℕ) (ds : List ℕ) → length two ≡ 2 → least ≤ max 1 p → length ds ≤ 8 → count ≡ least - length ds
    → length (if alternate then (if t then [] else two) else []) + (count + length ds) ≤ (if alternate then 2 else 0) + max 8 p
hex_fits false t two count least p ds w l d e = omega arith
hex_fits true true two count least p ds w l d e = omega arith
hex_fits true false two count least p ds w l d e = omega arith

body_fits : (c : Conversion) (f : Format) (n : ℤ) (count : ℕ) → c ≢ Text → FitsSigned w32 n → count ≡ least_count f.precision - length (magnitude c n)
    → length (front_for c f n (replicate count 48 ++ magnitude c n)) + (count + length (magnitude c n)) ≤ printed_text_size c f 0
body_fits Signed f n count k h e =
    let ds : length (significant 10 false (unsigned_abs n)) ≤ 10 = (let a : unsigned_abs n < 10 ^ 10 = abs_small n h in length-significant-le 10 false (omega arith) 10 (unsigned_abs n) (omega arith) a) in
    let least : least_count f.precision ≤ max 1 (unwrap_or f.precision 0) = least_small f.precision in
    let one : length (sign f n) ≤ 1 = length-sign f n in
    omega arith
body_fits Octal f n count k h e =
    octal_fits f.alternate count (least_count f.precision) (unwrap_or f.precision 0) (significant 8 false (cast_unsigned w32 n)) (least_small f.precision)
    (let b : cast_unsigned w32 n < 2 ^ 32 = bits_small n h in length-significant-le 8 false (omega arith) 11 (cast_unsigned w32 n) (omega arith) (omega arith)) e
body_fits LowerHex f n count k h e =
    hex_fits f.alternate (cast_unsigned w32 n == 0) (codes "0x") count (least_count f.precision) (unwrap_or f.precision 0) (significant 16 false (cast_unsigned w32 n)) refl (least_small f.precision)
    (let b : cast_unsigned w32 n < 2 ^ 32 = bits_small n h in length-significant-le 16 false (omega arith) 8 (cast_unsigned w32 n) (omega arith) (omega arith)) e
body_fits UpperHex f n count k h e =
    hex_fits f.alternate (cast_unsigned w32 n == 0) (codes "0X") count (least_count f.precision) (unwrap_or f.precision 0) (significant 16 true (cast_unsigned w32 n)) refl (least_small f.precision)
    (let b : cast_unsigned w32 n < 2 ^ 32 = bits_small n h in length-significant-le 16 true (omega arith) 8 (cast_unsigned w32 n) (omega arith) (omega arith)) e
body_fits Text f n count k h e = absurd (k refl)

-- ---- with the fill

fill_by : (left : Bool) (w : ℕ) (xs : List ℕ) → length (if left then xs ++ replicate (w - length xs) 32 else replicate (w - length xs) 32 ++ xs) ≡ max w (length xs)
fill_by true w xs = simp (length-append, length-replicate) (omega arith)
fill_by false w xs = simp (length-append, length-replicate) (omega arith)

length-fill : (f : Format) (xs : List ℕ) → length (fill f xs) ≡ max f.width (length xs)
length-fill f xs = fill_by f.left f.width xs

with_front_by : (zeros : Bool) (w : ℕ) (front ds : List ℕ) → length (front ++ (if zeros then replicate (w - length front - length ds) 48 ++ ds else ds)) ≤ max w (length front + length ds)
with_front_by true w front ds = simp (length-append, length-replicate) (omega arith)
with_front_by false w front ds = simp length-append (omega arith)

-- no number needs more than the size
pub length-print_of_number-le : (f : Format) (n : ℤ) → f.conversion ≢ Text → FitsSigned w32 n → length (print_of_number f n) ≤ format_size f 0
length-print_of_number-le f n k h =
    let ds = magnitude f.conversion n in
    let count = least_count f.precision - length ds in
    let front = front_for f.conversion f n (replicate count 48 ++ ds) in
    let body : length front + (count + length ds) ≤ printed_text_size f.conversion f 0 = body_fits f.conversion f n count k h refl in
    let both : length (replicate count 48 ++ ds) ≡ count + length ds = simp (length-append, length-replicate) in
    let join : length (with_front f front (replicate count 48 ++ ds)) ≤ max f.width (length front + length (replicate count 48 ++ ds)) = with_front_by (fills_with_zeros f) f.width front (replicate count 48 ++ ds) in
    let all : length (print_of_number f n) ≡ max f.width (length (with_front f front (replicate count 48 ++ ds))) = length-fill f (with_front f front (replicate count 48 ++ ds)) in
    omega arith

length-up_to_precision : (p : Option ℕ) (text : List ℕ) → length (up_to_precision p text) ≡ min (unwrap_or p (length text)) (length text)
length-up_to_precision None text = omega arith
length-up_to_precision (Some p) text = length-take p text

-- nor does a text
pub length-print_of_text-le : (f : Format) (text : List ℕ) → f.conversion ≡ Text → length (print_of_text f text) ≤ format_size f (length text)
length-print_of_text-le f text k =
    let short = length-up_to_precision f.precision text in
    let all = length-fill f (up_to_precision f.precision text) in
    let size : printed_text_size f.conversion f (length text) ≡ min (unwrap_or f.precision (length text)) (length text) = ap (λ (c : Conversion). printed_text_size c f (length text)) k in
    omega arith

-- nor does a text up to a length
cut_longer : (p : Option ℕ) (a b : ℕ) → a ≤ b → min (unwrap_or p a) a ≤ min (unwrap_or p b) b
cut_longer None a b h = omega arith
cut_longer (Some p) a b h = omega arith

pub print_of_text-longer : (f : Format) (text : List ℕ) (m : ℕ) → f.conversion ≡ Text → length text ≤ m → length (print_of_text f text) ≤ format_size f m
print_of_text-longer f text m k h =
    let here : length (print_of_text f text) ≤ format_size f (length text) = length-print_of_text-le f text k in
    let longer : min (unwrap_or f.precision (length text)) (length text) ≤ min (unwrap_or f.precision m) m = cut_longer f.precision (length text) m h in
    let short : printed_text_size f.conversion f (length text) ≡ min (unwrap_or f.precision (length text)) (length text) = ap (λ (c : Conversion). printed_text_size c f (length text)) k in
    let long : printed_text_size f.conversion f m ≡ min (unwrap_or f.precision m) m = ap (λ (c : Conversion). printed_text_size c f m) k in
    omega arith
