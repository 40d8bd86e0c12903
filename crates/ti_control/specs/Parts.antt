-- Values of the code.
use Rattle.std.specs.Borrow.{Bor}
use Rattle.std.specs.Prelude.{ℕ, List, map}

-- texts that are lent
abbrev pub texts_of : List (Bor (List ℕ)) → List (List ℕ)
texts_of = map (λ text. text.now)
