-- Pieces that a source gave one after another.
use Rattle.std.proofs.Common.{◌≡◌, ◌∙◌, ◌⊎◌, ◌≤◌, ◌==◌, ℕ, true, length, List, [], ◌++◌, sym, ap, subst, arith, append_assoc, length-append}
use Rattle.std.proofs.lemmas.Bool.{eq-eqb}
use Rattle.std.specs.Prelude.{Option}
use Rattle.std.specs.Io.KnownBytes.{Consumes}
use Rattle.std.proofs.KnownBytes.{Consumes-trans}
use Rattle.ti_tool.specs.inner.ReadsInto.{ReadsInto}

pub ReadsInto-next : (a b c : Option (List ℕ)) (xs ys zs piece : List ℕ) → ReadsInto a b xs ys → Consumes b c piece → zs ≡ ys ++ piece → ReadsInto a c xs zs
ReadsInto-next a b c xs ys zs piece before took e =
    let (bytes, taken, is) = before in
    (bytes ++ piece, Consumes-trans a b c bytes piece taken took, e ∙ ap (λ l. l ++ piece) is ∙ append_assoc xs bytes piece)

-- what an empty buffer took is all that the source lost
pub ReadsInto-empty : (a b : Option (List ℕ)) (old new x : List ℕ) → ReadsInto a b old new → old ≡ [] → x ≡ new → Consumes a b x
ReadsInto-empty a b old new x (bytes, took, is) e s =
    let P : List ℕ → Type 0 = λ l. Consumes a b l in
    subst P (sym (s ∙ is ∙ ap (λ l. l ++ bytes) e)) took

-- the buffer is full, or the source is at its end
pub at_end : (E : Type 0) (most : ℕ) (new x : List ℕ) → x ≡ new → (length new ≡ most) ⊎ E → (length x ≡ most) ⊎ E
at_end E most new x s h = let P : List ℕ → Type 0 = λ l. (length l ≡ most) ⊎ E in subst P (sym s) h

-- a full buffer stays full
pub full_stays : (a b : Option (List ℕ)) (old new : List ℕ) (most : ℕ) → ReadsInto a b old new → length old ≡ most → length new ≤ most → (length new == most) ≡ true
full_stays a b old new most (bytes, took, is) full fits = eq-eqb (length new) most (omega (arith, ap length is, length-append old bytes))
