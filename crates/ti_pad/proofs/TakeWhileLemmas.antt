-- The longest run of digits has only digits.
use Rattle.std.proofs.Common.{◌≡◌, ◌∙◌, ℕ, Bool, true, false, cond, List, [], ◌∷◌, ap, refl}
use Rattle.std.specs.List.{list_all, take_while}
use Rattle.std.proofs.lemmas.List.Sums.{take_while-cons}

by_first : (p : ℕ → Bool) (x : ℕ) (run : List ℕ) → list_all p run ≡ true → (b : Bool) → p x ≡ b → list_all p (cond b (x ∷ run) []) ≡ true
by_first p x run all true e = rw e all
by_first p x run all false e = refl

pub list_all-take_while : (p : ℕ → Bool) (xs : List ℕ) → list_all p (take_while p xs) ≡ true
list_all-take_while p [] = refl
list_all-take_while p (x ∷ xs) = ap (list_all p) (take_while-cons p x xs) ∙ by_first p x (take_while p xs) (list_all-take_while p xs) (p x) refl
