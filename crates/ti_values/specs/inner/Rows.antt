-- The rows of a table, and lists of lent texts, as the code holds them.
use Rattle.std.specs.Borrow.{Bor}
use Rattle.std.specs.Prelude.{ℕ, List, map}

abbrev pub row_of : {X : Type 0} → Bor (List ℕ) × X → List ℕ × X
row_of (name, x) = (name.now, x)

-- lent texts
abbrev pub slices_of : List (Bor (List ℕ)) → List (List ℕ)
slices_of list = map (λ slice. slice.now) list
