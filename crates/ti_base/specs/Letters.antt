-- A character's code, told by the character.
use Rattle.std.specs.Prelude.{ℕ, List, [], ◌∷◌}

-- the first byte of a text, as in `letter (codes "%")`
abbrev pub letter : List ℕ → ℕ
letter [] = 0
letter (byte ∷ rest) = byte
