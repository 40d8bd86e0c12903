-- Those of a list that pass a test, taken from the end of its reverse.
use Rattle.std.proofs.Common.{◌≡◌, ◌∙◌, Bool, true, false, List, [], ◌∷◌, ◌++◌, ap, append_assoc, cond, refl, reverse, sym}
use Rattle.std.specs.List.{filter}
use Rattle.std.proofs.lemmas.List.{reverse-append}

one : {X : Type 0} (b : Bool) (x : X) (xs : List X) → cond b (x ∷ xs) xs ≡ cond b (x ∷ []) [] ++ xs
one true x xs = refl
one false x xs = refl

pub one_taken : {X : Type 0} (p : X → Bool) (kept new whole rest left : List X) (x : X) → rest ≡ left ++ x ∷ [] → new ≡ kept ++ cond (p x) (x ∷ []) [] → kept ++ filter p (reverse rest) ≡ whole
    → new ++ filter p (reverse left) ≡ whole
one_taken p kept new whole rest left x is added so =
    let more = filter p (reverse left) in
    let all : reverse rest ≡ x ∷ reverse left = ap reverse is ∙ reverse-append left (x ∷ []) in
    ap (λ l. l ++ more) added ∙ append_assoc kept (cond (p x) (x ∷ []) []) more ∙ ap (λ l. kept ++ l) (sym (one (p x) x more) ∙ ap (filter p) (sym all)) ∙ so
