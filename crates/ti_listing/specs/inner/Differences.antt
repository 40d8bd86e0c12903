-- Differences that are added after others.
use Rattle.std.specs.Prelude.{◌≡◌, List, ◌++◌}
use Rattle.ti_listing.specs.Differences.{DifferenceValue}

-- such differences come after what was there
abbrev pub Adds : (List DifferenceValue → Type 0) → List DifferenceValue → List DifferenceValue → Type 0
Adds AreThese old new = (told : List DifferenceValue) × AreThese told × (new ≡ old ++ told)
