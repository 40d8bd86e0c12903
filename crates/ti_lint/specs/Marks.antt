-- Padding marks of a text, by their places.
use Rattle.std.specs.Prelude.{ℕ, List, drop, nat_eq, IsTrue, codes}
use Rattle.std.specs.List.{starts_with}
use Rattle.ti_pad.specs.Marks.{StartsWithMark}

-- a mark stands at the place
abbrev pub IsMark : List ℕ → ℕ → Type 0
IsMark bytes place = StartsWithMark (drop place bytes)

-- `$<` stands at the place, and no mark does
abbrev pub IsFalseMark : List ℕ → ℕ → Type 0
IsFalseMark bytes place = IsTrue (starts_with nat_eq (drop place bytes) (codes "$<")) × ¬ IsMark bytes place
