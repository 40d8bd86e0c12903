-- What a source gave.
use Rattle.std.specs.Prelude.{◌≡◌, ℕ, List, ◌++◌, Option}
use Rattle.std.specs.Io.KnownBytes.{Consumes}

-- what the source lost stands after what was there
abbrev pub ReadsInto : Option (List ℕ) → Option (List ℕ) → List ℕ → List ℕ → Type 0
ReadsInto before after old new =
    (bytes : List ℕ) × Consumes before after bytes × (new ≡ old ++ bytes)
