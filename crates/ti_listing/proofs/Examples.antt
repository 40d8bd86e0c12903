-- Worked rows of the definitions.
use Rattle.std.proofs.Common.{◌≡◌, [], ◌∷◌, refl}
use Rattle.std.specs.Prelude.{codes}
use Rattle.ti_listing.specs.Differences.{with_new}

-- the names of one entry, each once, and then those that only the other has
names_once : with_new (with_new [] (codes "XM" ∷ codes "Se" ∷ codes "XM" ∷ [])) (codes "Ss" ∷ codes "Se" ∷ []) ≡ codes "XM" ∷ codes "Se" ∷ codes "Ss" ∷ []
names_once = refl
