-- A finding at a place, if there is one.
use Rattle.std.specs.Prelude.{ℕ, List, [], ◌∷◌, Option, Some, None}
use Rattle.ti_lint.specs.declared.token_finding.TokenFinding.{TokenFinding}
use Rattle.ti_lint.specs.declared.placed_finding.PlacedFinding.{PlacedFinding}

abbrev pub found_at : ℕ → Option TokenFinding → List PlacedFinding
found_at place (Some finding) = record { place = place; finding = finding } ∷ []
found_at place None = []
