-- No notation has a blank at an end.
use Rattle.std.proofs.Common.{◌≡◌, ◌≢◌, ◌∙◌, ◌-◌, ◌≤◌, ◌<◌, ℕ, Bool, true, false, List, [], ◌∷◌, ◌++◌, ap, sym, length, get_or, arith, cond, eqb, eq-eqb, append-nil, length-append}
use Rattle.std.proofs.Math.Seq.{get_or-append_right}
use Rattle.ti_escape.specs.Laws.{HasNoBlankEnd}
use Rattle.ti_escape.specs.Notation.{byte_notation, end_notation, first_notation, later_notation, looks_like_a_word, octal}
use Rattle.ti_escape.proofs.ByteFormsLemmas.{byte_forms, end_forms, meaning_forms}

-- characters of which neither the first nor the last is a blank
record HasEnds (chars : List ℕ) : Type 0 where
  some : 0 < length chars
  first : get_or chars 0 0 ≢ 32
  last : get_or chars (length chars - 1) 0 ≢ 32

-- the last of some characters after others
last-append : (xs ys : List ℕ) → 0 < length ys → get_or ys (length ys - 1) 0 ≢ 32 → get_or (xs ++ ys) (length (xs ++ ys) - 1) 0 ≢ 32
last-append xs ys some other e =
    let low : length xs ≤ length (xs ++ ys) - 1 = omega (arith, length-append xs ys) in
    let same : length (xs ++ ys) - 1 - length xs ≡ length ys - 1 = omega (arith, length-append xs ys) in
    other (sym (get_or-append_right xs ys (length (xs ++ ys) - 1) 0 low ∙ ap (λ n. get_or ys n 0) same) ∙ e)

first-append : (xs ys : List ℕ) → 0 < length xs → get_or xs 0 0 ≢ 32 → get_or (xs ++ ys) 0 0 ≢ 32
first-append [] ys some other = absurd (omega arith)
first-append (x ∷ xs) ys some other = other

octal_ends : (byte : ℕ) → HasEnds (octal byte)
octal_ends byte = record { some = omega arith; first = λ e. absurd (cc e); last = λ e. absurd (omega arith) }

byte_ends : (before byte : ℕ) → eqb byte 32 ≡ false → HasEnds (byte_notation before byte)
byte_ends before byte other =
    byte_forms HasEnds before byte
    (λ is. record { some = omega arith; first = λ e. absurd (cc e); last = λ e. absurd (cc e) })
    (λ has. meaning_forms (λ b. HasEnds (92 ∷ b ∷ [])) byte has
    (record { some = omega arith; first = λ e. absurd (cc e); last = λ e. absurd (cc e) })
    (record { some = omega arith; first = λ e. absurd (cc e); last = λ e. absurd (cc e) })
    (record { some = omega arith; first = λ e. absurd (cc e); last = λ e. absurd (cc e) }))
    (λ none low high. record { some = omega arith; first = λ e. absurd (cc (eq-eqb byte 32 e)); last = λ e. absurd (cc (eq-eqb byte 32 e)) })
    (λ other. octal_ends byte)
    (λ none is. record { some = omega arith; first = λ e. absurd (cc e); last = λ e. absurd (cc e) })
    (λ none low. record { some = omega arith; first = λ e. absurd (cc e); last = λ e. absurd (omega arith) })

end_ends : (before byte : ℕ) → HasEnds (end_notation before byte)
end_ends before byte = end_forms HasEnds before byte (λ is. record { some = omega arith; first = λ e. absurd (cc e); last = λ e. absurd (cc e) }) (byte_ends before byte)

first_by : (byte : ℕ) (b : Bool) → HasEnds (cond b (octal byte) (end_notation 0 byte))
first_by byte true = octal_ends byte
first_by byte false = end_ends 0 byte

-- characters of which the last is no blank
record HasLast (chars : List ℕ) : Type 0 where
  some : 0 < length chars
  last : get_or chars (length chars - 1) 0 ≢ 32

later_last : (before byte : ℕ) (rest : List ℕ) → HasLast (later_notation before (byte ∷ rest))
later_last before byte [] = let ends : HasEnds (end_notation before byte) = end_ends before byte in record { some = ends.some; last = ends.last }
later_last before byte (next ∷ rest) =
    let more : HasLast (later_notation byte (next ∷ rest)) = later_last byte next rest in
    record {
      some = omega (arith, more.some, length-append (byte_notation before byte) (later_notation byte (next ∷ rest)));
      last = last-append (byte_notation before byte) (later_notation byte (next ∷ rest)) more.some more.last;
    }

pub has_no_blank_end : HasNoBlankEnd
has_no_blank_end [] = (λ e. absurd (cc e), λ e. absurd (cc e))
has_no_blank_end (byte ∷ []) =
    let ends : HasEnds (first_notation byte []) = first_by byte (looks_like_a_word (byte ∷ [])) in
    rw (append-nil (first_notation byte [])) (ends.first, ends.last)
has_no_blank_end (byte ∷ next ∷ rest) =
    let ends : HasEnds (first_notation byte (next ∷ rest)) = first_by byte (looks_like_a_word (byte ∷ next ∷ rest)) in
    let more : HasLast (later_notation byte (next ∷ rest)) = later_last byte next rest in (
      first-append (first_notation byte (next ∷ rest)) (later_notation byte (next ∷ rest)) ends.some ends.first,
      last-append (first_notation byte (next ∷ rest)) (later_notation byte (next ∷ rest)) more.some more.last,
    )
