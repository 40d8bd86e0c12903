-- A notation, stretch by stretch and from its ends.
use Rattle.std.proofs.Common.{◌≡◌, ◌∙◌, ◌+◌, ◌-◌, ◌<◌, ℕ, zero, suc, Bool, true, false, List, [], ◌∷◌, ◌++◌, ap, sym, refl, length, drop, take, get_or, arith, cond, one-add, append_assoc}
use Rattle.std.specs.List.{prefix_len}
use Rattle.std.proofs.lemmas.Bool.Decides.{nat_tests}
use Rattle.std.proofs.Math.Numerals.{sub-one}
use Rattle.ti_escape.specs.declared.stretch.Space.{Space}
use Rattle.ti_escape.specs.declared.stretch.Space.TheVariants.{Kept, Escaped}
use Rattle.ti_escape.specs.Notation.{byte_notation, each_notation, end_notation, first_notation, later_notation, notation}
use Rattle.ti_escape.specs.inner.Stretch.{is_plain, spaced_notation}

byte_notation-plain : (before byte : ℕ) → is_plain Kept byte ≡ true → byte_notation before byte ≡ byte ∷ []
byte_notation-plain before byte plain = grind (arith, nat_tests)

end_notation-plain : (before byte : ℕ) → is_plain Escaped byte ≡ true → end_notation before byte ≡ byte ∷ []
end_notation-plain before byte plain = grind (arith, nat_tests)

spaced_notation-plain : (space : Space) (before byte : ℕ) → is_plain space byte ≡ true → spaced_notation space before byte ≡ byte ∷ []
spaced_notation-plain Kept before byte plain = byte_notation-plain before byte plain
spaced_notation-plain Escaped before byte plain = end_notation-plain before byte plain

-- the notation of bytes after another
abbrev pub spaced_all : Space → ℕ → List ℕ → List ℕ
spaced_all space before xs = each_notation (spaced_notation space) before xs

-- bytes that are written as they are, are their own notation, and the last of them is before the rest
record IsSplit (space : Space) (before : ℕ) (xs : List ℕ) (n : ℕ) : Type 0 where
  same : spaced_all space before xs ≡ take n xs ++ spaced_all space (get_or (before ∷ xs) n 0) (drop n xs)

split_by : (space : Space) (before byte : ℕ) (rest : List ℕ) → IsSplit space byte rest (prefix_len (is_plain space) rest)
    → (b : Bool) → is_plain space byte ≡ b → IsSplit space before (byte ∷ rest) (cond b (1 + prefix_len (is_plain space) rest) 0)
split_by space before byte rest ih false e = record { same = refl }
split_by space before byte rest ih true e =
    record { same = rw one-add (ap (λ l. l ++ spaced_all space byte rest) (spaced_notation-plain space before byte e) ∙ ap (λ l. byte ∷ l) ih.same) }

split_at_prefix : (space : Space) (before : ℕ) (xs : List ℕ) → IsSplit space before xs (prefix_len (is_plain space) xs)
split_at_prefix space before [] = record { same = refl }
split_at_prefix space before (byte ∷ rest) = split_by space before byte rest (split_at_prefix space byte rest) (is_plain space byte) refl

after_some : (space : Space) (before : ℕ) (xs : List ℕ) (n : ℕ) → 0 < n → IsSplit space before xs n
    → spaced_all space before xs ≡ take n xs ++ spaced_all space (get_or xs (n - 1) 0) (drop n xs)
after_some space before xs zero some split = absurd (omega arith)
after_some space before xs (suc n) some split = rw sub-one split.same

pub plain-stretch : (space space_after : Space) (before last : ℕ) (xs rest : List ℕ) (n : ℕ) → n ≡ prefix_len (is_plain space) xs → 0 < n
    → space_after ≡ space → last ≡ get_or xs (n - 1) 0 → rest ≡ drop n xs → spaced_all space before xs ≡ take n xs ++ spaced_all space_after last rest
plain-stretch space space_after before last xs rest n is some same before_rest after =
    rw (same, before_rest, after) (after_some space before xs n some (rw is (split_at_prefix space before xs)))

-- the bytes after the first are those in the middle and the last
later_notation-ends : (before next : ℕ) (rest : List ℕ) → later_notation before (next ∷ rest)
    ≡ spaced_all Kept before (take (length rest) (next ∷ rest)) ++ end_notation (get_or (before ∷ next ∷ rest) (length rest) 0) (get_or (next ∷ rest) (length rest) 0)
later_notation-ends before next [] = refl
later_notation-ends before next (byte ∷ rest) =
    ap (λ l. byte_notation before next ++ l) (later_notation-ends next byte rest)
    ∙ sym (append_assoc (byte_notation before next) (spaced_all Kept next (take (length rest) (byte ∷ rest))) (end_notation (get_or (next ∷ byte ∷ rest) (length rest) 0) (get_or (byte ∷ rest) (length rest) 0)))

ends_by : (byte next : ℕ) (rest : List ℕ) (n j k : ℕ) → n ≡ length rest → j ≡ length rest → k ≡ suc (length rest)
    → later_notation byte (next ∷ rest) ≡ spaced_all Kept byte (take n (next ∷ rest)) ++ end_notation (get_or (byte ∷ next ∷ rest) j 0) (get_or (byte ∷ next ∷ rest) k 0)
ends_by byte next rest n j k few last_but_one after = rw (few, last_but_one, after) (later_notation-ends byte next rest)

-- a text of two bytes or more is its ends and the bytes in the middle
pub notation-ends : (text first last : List ℕ) (start n j k : ℕ) → n + 2 ≡ length text → j + 2 ≡ length text → k + 1 ≡ length text → start ≡ get_or text 0 0
    → first ≡ first_notation start (drop 1 text) → last ≡ end_notation (get_or text j 0) (get_or text k 0)
    → notation text ≡ first ++ spaced_all Kept start (take n (drop 1 text)) ++ last
notation-ends [] first last start n j k few last_but_one after is front end = absurd (omega arith)
notation-ends (byte ∷ []) first last start n j k few last_but_one after is front end = absurd (omega arith)
notation-ends (byte ∷ next ∷ rest) first last start n j k few last_but_one after is front end =
    rw (front, end, is) (ap (λ l. first_notation byte (next ∷ rest) ++ l) (ends_by byte next rest n j k (omega arith) (omega arith) (omega arith))
    ∙ sym (append_assoc (first_notation byte (next ∷ rest)) (spaced_all Kept byte (take n (next ∷ rest))) (end_notation (get_or (byte ∷ next ∷ rest) j 0) (get_or (byte ∷ next ∷ rest) k 0))))
