-- How the notation of the first bytes of a text grows from one place to a later one.
use Rattle.std.proofs.Common.{◌≡◌, ◌∙◌, ◌+◌, ◌-◌, ◌≤◌, ◌<◌, ℕ, zero, suc, true, List, [], ◌∷◌, ◌++◌, ap, sym, refl, length, drop, take, get_or, arith, append_assoc, length-append, ltb}
use Rattle.std.proofs.lemmas.Bool.{lt-ltb}
use Rattle.ti_escape.specs.Notation.{byte_notation, column, first_notation}
use Rattle.ti_escape.specs.declared.stretch.Space.TheVariants.{Kept}
use Rattle.ti_escape.proofs.NotationLemmas.{spaced_all}

-- so many bytes, and then more
front_grows : (before : ℕ) (xs : List ℕ) (a n : ℕ) → a ≤ length xs
    → spaced_all Kept before (take (a + n) xs) ≡ spaced_all Kept before (take a xs) ++ spaced_all Kept (get_or (before ∷ xs) a 0) (take n (drop a xs))
front_grows before xs zero n low = let e : 0 + n ≡ n = omega arith in rw e refl
front_grows before [] (suc a) n low = absurd (omega arith)
front_grows before (x ∷ xs) (suc a) n low =
    let e : suc a + n ≡ suc (a + n) = omega arith in
    let low_rest : a ≤ length xs = omega arith in
    rw e (ap (λ l. byte_notation before x ++ l) (front_grows x xs a n low_rest)
    ∙ sym (append_assoc (byte_notation before x) (spaced_all Kept x (take a xs)) (spaced_all Kept (get_or (x ∷ xs) a 0) (take n (drop a xs)))))

-- the column of a place within the text
column_within : (byte : ℕ) (rest : List ℕ) (place : ℕ) → place < length rest
    → column (byte ∷ rest) (suc place) ≡ length (first_notation byte rest) + length (spaced_all Kept byte (take place rest))
column_within byte rest place within =
    let e : ltb place (length rest) ≡ true = lt-ltb _ _ within in
    rw e (length-append (first_notation byte rest) (spaced_all Kept byte (take place rest)))

-- the columns between a place that is not the first, and a later one
pub column-between : (text span : List ℕ) (from to count : ℕ) → 0 < from → from ≤ to → to < length text → span ≡ take count (drop from text) → count ≡ to - from
    → column text from + length (spaced_all Kept (get_or text (from - 1) 0) span) ≡ column text to
column-between [] span from to count some order within taken same = absurd (omega arith)
column-between (byte ∷ rest) span zero to count some order within taken same = absurd (omega arith)
column-between (byte ∷ rest) span (suc from) zero count some order within taken same = absurd (omega arith)
column-between (byte ∷ rest) span (suc from) (suc to) count some order within taken same =
    let low : from ≤ length rest = omega arith in
    let n : count ≡ to - from = omega arith in
    let whole : from + (to - from) ≡ to = omega arith in
    let one : suc from - 1 ≡ from = omega arith in
    let grows = front_grows byte rest from (to - from) low in
    rw (column_within byte rest from (omega arith), column_within byte rest to (omega arith), one, taken, n)
    (omega (arith, ap length grows, length-append (spaced_all Kept byte (take from rest)) (spaced_all Kept (get_or (byte ∷ rest) from 0) (take (to - from) (drop from rest))), ap (λ k. length (spaced_all Kept byte (take k rest))) whole))
