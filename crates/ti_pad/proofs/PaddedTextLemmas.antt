-- A padded text, run by run.
use Rattle.std.proofs.Common.{◌≡◌, ◌∙◌, ◌+◌, ◌-◌, ◌<◌, ℕ, Bool, true, false, List, [], ◌∷◌, ◌++◌, ap, sym, refl, length, drop, take, arith, cond, eqb, one-add, add-zero, append-nil, subst}
use Rattle.std.specs.Prelude.{Option, Some, None, codes, flat_map, replicate, not}
use Rattle.ti_base.specs.Letters.{letter}
use Rattle.std.specs.List.{prefix_len}
use Rattle.std.proofs.lemmas.List.{take-append-drop, take_rest}
use Rattle.std.specs.Io.KnownBytes.{Appends}
use Rattle.ti_pad.specs.Marks.{Mark, mark_at, pieces_from, mark_bytes}
use Rattle.ti_pad.specs.Padded.{count_of, padded_text, padded_piece}
use Rattle.ti_pad.specs.Setting.{Setting}
use Rattle.ti_pad.specs.inner.Stretch.{is_plain}
use Rattle.ti_pad.proofs.PiecesLemmas.{pieces-literal, pieces-marked}

pub padded_text-nil : (s : Setting) → padded_text [] s ≡ []
unfolding pieces_from
padded_text-nil s = refl

pub padded_text-literal : (byte : ℕ) (rest : List ℕ) (s : Setting) → mark_at (byte ∷ rest) ≡ None → padded_text (byte ∷ rest) s ≡ byte ∷ padded_text rest s
padded_text-literal byte rest s e = ap (flat_map (padded_piece s)) (pieces-literal byte rest e)

pub padded_text-marked : (xs : List ℕ) (m : Mark) (s : Setting) → mark_at xs ≡ Some m
    → padded_text xs s ≡ replicate (count_of s m) s.pad ++ padded_text (drop (length (mark_bytes m)) xs) s
padded_text-marked [] m s e = cc
padded_text-marked (byte ∷ rest) m s e = ap (flat_map (padded_piece s)) (pieces-marked byte rest m e)

-- a mark starts with `$` alone
pub mark_at-plain : (byte : ℕ) (rest : List ℕ) → eqb byte (letter (codes "$")) ≡ false → mark_at (byte ∷ rest) ≡ None
mark_at-plain byte [] e = rw e
mark_at-plain byte (next ∷ rest) e = rw e

plain_by : (byte : ℕ) (rest : List ℕ) (s : Setting) → padded_text rest s ≡ take (prefix_len is_plain rest) rest ++ padded_text (drop (prefix_len is_plain rest) rest) s
    → (b : Bool) → eqb byte (letter (codes "$")) ≡ b
    → padded_text (byte ∷ rest) s
    ≡ take (cond (not b) (1 + prefix_len is_plain rest) 0) (byte ∷ rest) ++ padded_text (drop (cond (not b) (1 + prefix_len is_plain rest) 0) (byte ∷ rest)) s
plain_by byte rest s ih true e = refl
plain_by byte rest s ih false e = rw one-add (padded_text-literal byte rest s (mark_at-plain byte rest e) ∙ ap (λ l. byte ∷ l) ih)

-- up to the next `$` a padded text is the text
pub padded_text-plain : (xs : List ℕ) (s : Setting) → padded_text xs s ≡ take (prefix_len is_plain xs) xs ++ padded_text (drop (prefix_len is_plain xs) xs) s
padded_text-plain [] s = refl
padded_text-plain (byte ∷ rest) s = plain_by byte rest s (padded_text-plain rest s) (eqb byte (letter (codes "$"))) refl

-- a text that starts with a mark
pub text-marked : (xs after : List ℕ) (m : Mark) (s : Setting) (n : ℕ) → Some m ≡ mark_at xs → after ≡ drop (length (mark_bytes m)) xs → n ≡ count_of s m
    → padded_text xs s ≡ replicate n s.pad ++ padded_text after s
text-marked xs after m s n e rest is = rw (rest, is) (padded_text-marked xs m s (sym e))

-- a text that starts with a byte that stands for itself
pub text-literal : (xs : List ℕ) (s : Setting) (n : ℕ) → None ≡ mark_at xs → 0 < length xs → n ≡ prefix_len is_plain (take (length xs - 1) (drop 1 xs))
    → padded_text xs s ≡ take (1 + n) xs ++ padded_text (take (length xs - (1 + n)) (drop (1 + n) xs)) s
text-literal [] s n e some is = absurd (omega arith)
text-literal (byte ∷ rest) s n e some is =
    let same : n ≡ prefix_len is_plain rest = is ∙ ap (prefix_len is_plain) (take_rest (byte ∷ rest) 1) in
    let later : take (length (byte ∷ rest) - (1 + n)) (drop (1 + n) (byte ∷ rest)) ≡ drop (1 + n) (byte ∷ rest) = take_rest (byte ∷ rest) (1 + n) in
    rw (later, same, one-add) (padded_text-literal byte rest s (sym e) ∙ ap (λ l. byte ∷ l) (padded_text-plain rest s))

-- no text is left
pub length-padded_text_none : (xs : List ℕ) (s : Setting) (total all : ℕ) → length xs ≡ 0 → total + length (padded_text xs s) ≡ all → total ≡ all
length-padded_text_none [] s total all e counted = rw (padded_text-nil, add-zero) at counted
length-padded_text_none (x ∷ xs) s total all e counted = absurd (omega arith)

pub padded_text_none : (xs out all : List ℕ) (s : Setting) → length xs ≡ 0 → out ++ padded_text xs s ≡ all → out ≡ all
padded_text_none [] out all s e made = sym (append-nil out) ∙ rw padded_text-nil at made
padded_text_none (x ∷ xs) out all s e made = absurd (omega arith)

-- the bytes that were taken are all if no text is left
pub Appends-whole : (a b : Option (List ℕ)) (text : List ℕ) (gone : ℕ) (rest : List ℕ) (s : Setting) → length rest ≡ 0 → drop gone text ≡ padded_text rest s
    → Appends a b (take gone text) → Appends a b text
Appends-whole a b text gone [] s e left taken =
    let whole : take gone text ≡ text = sym (append-nil (take gone text)) ∙ ap (λ l. take gone text ++ l) (sym (left ∙ padded_text-nil s)) ∙ take-append-drop gone text in
    subst (Appends a b) whole taken
Appends-whole a b text gone (x ∷ xs) s e left taken = absurd (omega arith)
