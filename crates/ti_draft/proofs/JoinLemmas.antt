-- Sections one after the other, and what follows them.
use Rattle.std.proofs.Common.{◌≡◌, ℕ, List, [], ◌∷◌, ◌++◌, refl, sym, ap, ◌∙◌, append_assoc}
use Rattle.ti_words.specs.Spelling.{join}

pub join_then : (sections : List (List ℕ)) (rest : List ℕ) → join sections rest ≡ join sections [] ++ rest
join_then [] rest = refl
join_then (s ∷ ss) rest = ap (λ l. s ++ l) (join_then ss rest) ∙ sym (append_assoc s (join ss []) rest)
