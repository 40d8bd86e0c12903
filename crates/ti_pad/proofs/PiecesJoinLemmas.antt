-- The pieces of a text join to the text.
use Rattle.std.proofs.Common.{◌≡◌, ◌∙◌, ℕ, zero, suc, pred, List, [], ◌∷◌, ◌++◌, ap, sym, refl, length, drop}
use Rattle.std.specs.Prelude.{Option, Some, None}
use Rattle.std.proofs.lemmas.List.Prefix.{front_rest}
use Rattle.ti_pad.specs.Laws.{PiecesJoin}
use Rattle.ti_pad.specs.Marks.{StandsAtFront, Mark, joined_text, mark_at, piece_at, pieces_from, mark_bytes}
use Rattle.ti_pad.proofs.FindsMarksLemmas.{finds_marks}

joined_by : (byte : ℕ) (rest : List ℕ) → ((skip : ℕ) → joined_text (pieces_from skip rest) ≡ drop skip rest) → (o : Option Mark) → mark_at (byte ∷ rest) ≡ o
    → joined_text (piece_at byte o (λ skip. pieces_from skip rest)) ≡ byte ∷ rest
joined_by byte rest more None e = ap (λ l. byte ∷ l) (more 0)
joined_by byte rest more (Some m) e =
    let stands : StandsAtFront m (byte ∷ rest) = (finds_marks m (byte ∷ rest)).0 e in
    ap (λ l. mark_bytes m ++ l) (more (pred (length (mark_bytes m))) ∙ front_rest (byte ∷ rest) (mark_bytes m) stands.rest stands.bytes_are) ∙ sym stands.bytes_are

joined_text-pieces_from : (skip : ℕ) (xs : List ℕ) → joined_text (pieces_from skip xs) ≡ drop skip xs
unfolding pieces_from
joined_text-pieces_from zero [] = refl
joined_text-pieces_from (suc skip) [] = refl
joined_text-pieces_from (suc skip) (byte ∷ rest) = joined_text-pieces_from skip rest
joined_text-pieces_from zero (byte ∷ rest) = joined_by byte rest (λ skip. joined_text-pieces_from skip rest) (mark_at (byte ∷ rest)) refl

pub pieces_join : PiecesJoin
pieces_join bytes = joined_text-pieces_from 0 bytes
