-- A text as the capability that writes it.
use Rattle.std.specs.Prelude.{ℕ, ◌==◌, List, [], ◌∷◌, codes, if◌then◌else◌}
use Rattle.std.specs.List.{flat_map}
use Rattle.ti_base.specs.Letters.{letter}

-- `%%` writes a `%`, and each other byte itself (terminfo(5))
unfoldable pub doubled_byte : ℕ → List ℕ
doubled_byte byte = if byte == letter (codes "%") then byte ∷ byte ∷ [] else byte ∷ []

abbrev pub doubled : List ℕ → List ℕ
doubled text = flat_map doubled_byte text
