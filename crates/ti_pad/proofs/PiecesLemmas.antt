-- The pieces of a text, from its front.
use Rattle.std.proofs.Common.{◌≡◌, ◌∙◌, ℕ, zero, suc, pred, List, [], ◌∷◌, ap, refl, length, drop}
use Rattle.std.specs.Prelude.{Some, None}
use Rattle.ti_pad.specs.Marks.{Mark, literal, marked, mark_at, pieces, pieces_from, piece_at, mark_bytes}

pub pieces-drop : (skip : ℕ) (xs : List ℕ) → pieces_from skip xs ≡ pieces (drop skip xs)
unfolding pieces_from
pieces-drop zero xs = refl
pieces-drop (suc skip) [] = refl
pieces-drop (suc skip) (x ∷ xs) = pieces-drop skip xs

pub pieces-literal : (byte : ℕ) (rest : List ℕ) → mark_at (byte ∷ rest) ≡ None → pieces (byte ∷ rest) ≡ literal byte ∷ pieces rest
unfolding pieces_from
pieces-literal byte rest e = ap (λ o. piece_at byte o (λ skip. pieces_from skip rest)) e

pub pieces-marked : (byte : ℕ) (rest : List ℕ) (m : Mark) → mark_at (byte ∷ rest) ≡ Some m
    → pieces (byte ∷ rest) ≡ marked m ∷ pieces (drop (length (mark_bytes m)) (byte ∷ rest))
unfolding pieces_from
pieces-marked byte rest m e =
    ap (λ o. piece_at byte o (λ skip. pieces_from skip rest)) e
    ∙ ap (λ l. marked m ∷ l) (pieces-drop (pred (length (mark_bytes m))) rest)
