-- After the first byte of a mark no mark starts.
use Rattle.std.proofs.Common.{◌≡◌, ◌∙◌, ◌+◌, ◌<◌, ◌≤◌, ℕ, zero, suc, true, false, List, [], ◌∷◌, ◌++◌, ap, refl, length, drop, get_or, eqb, arith, length-append}
use Rattle.std.specs.Prelude.{Option, Some, None, codes, find, is_some, unwrap_or}
use Rattle.std.specs.Char.{is_ascii_digit}
use Rattle.std.specs.List.{list_all}
use Rattle.std.specs.Str.{bytes_eq}
use Rattle.std.proofs.lemmas.Bool.{and_from, and_parts, ne_eqb, not-true}
use Rattle.std.proofs.lemmas.List.{drop_more, get_or_append_left}
use Rattle.std.proofs.lemmas.List.Folds.{list_all-append}
use Rattle.ti_base.specs.Letters.{letter}
use Rattle.ti_pad.specs.Laws.{MarksLieApart}
use Rattle.ti_pad.specs.Marks.{IsMark, Mark, all_flags, decimals_text, mark_at, mark_bytes}
use Rattle.ti_pad.specs.inner.Stretch.{is_plain}
use Rattle.ti_pad.proofs.DigitsValueLemmas.{digit_bounds, list_all_get}
use Rattle.ti_pad.proofs.FindsMarksLemmas.{listed}
use Rattle.ti_pad.proofs.PaddedTextLemmas.{mark_at-plain}

plain_digits : (xs : List ℕ) → list_all is_ascii_digit xs ≡ true → list_all is_plain xs ≡ true
plain_digits [] all = refl
plain_digits (x ∷ xs) all =
    let (first, more) = and_parts (is_ascii_digit x) (list_all is_ascii_digit xs) all in
    let other : eqb x (letter (codes "$")) ≡ false = ne_eqb x (letter (codes "$")) (λ e. let low : 48 ≤ x = (digit_bounds x first).0 in absurd (omega arith)) in
    rw other (plain_digits xs more)

plain_decimals : (decimals : Option (List ℕ)) → list_all is_ascii_digit (unwrap_or decimals []) ≡ true → list_all is_plain (decimals_text decimals) ≡ true
plain_decimals None all = refl
plain_decimals (Some digits) all = plain_digits digits all

plain_append : (xs ys : List ℕ) → list_all is_plain xs ≡ true → list_all is_plain ys ≡ true → list_all is_plain (xs ++ ys) ≡ true
plain_append xs ys p q = list_all-append is_plain xs ys ∙ and_from (list_all is_plain xs) (list_all is_plain ys) p q

plain_flags : (flags : List ℕ) → is_some (find (bytes_eq flags) all_flags) ≡ true → list_all is_plain (flags ++ codes ">") ≡ true
plain_flags flags = listed (λ flags. list_all is_plain (flags ++ codes ">") ≡ true) flags refl refl refl refl refl

plain_after : (m : Mark) → IsMark m → list_all is_plain (drop 1 (mark_bytes m)) ≡ true
plain_after m is =
    plain_append m.whole _ (plain_digits m.whole is.whole) (plain_append (decimals_text m.decimals) _ (plain_decimals m.decimals is.decimals) (plain_flags m.flags is.flags))

none_at : (m : Mark) (rest : List ℕ) (k : ℕ) → IsMark m → 0 < k → k < length (mark_bytes m) → mark_at (drop k (mark_bytes m ++ rest)) ≡ None
none_at m rest zero is some short = absurd (omega arith)
none_at m rest (suc j) is some short =
    let text : List ℕ = mark_bytes m ++ rest in
    let within : suc j < length text = omega (arith, length-append (mark_bytes m) rest) in
    let byte : get_or text (suc j) 0 ≡ get_or (mark_bytes m) (suc j) 0 = get_or_append_left (mark_bytes m) rest 0 (suc j) short in
    let plain : is_plain (get_or (drop 1 (mark_bytes m)) j 0) ≡ true = list_all_get is_plain (drop 1 (mark_bytes m)) j (plain_after m is) (omega arith) in
    ap mark_at (drop_more text (suc j) 0 within)
    ∙ mark_at-plain (get_or text (suc j) 0) (drop (suc j + 1) text) (ap (λ b. eqb b (letter (codes "$"))) byte ∙ not-true _ plain)

pub marks_lie_apart : MarksLieApart
marks_lie_apart m bytes k stands some short =
    ap (λ l. mark_at (drop k l)) stands.bytes_are ∙ none_at m stands.rest k stands.is_mark some short
