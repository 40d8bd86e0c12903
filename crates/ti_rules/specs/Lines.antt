-- What is told of items that are gone over in order.
use Rattle.std.specs.Prelude.{◌≡◌, ℕ, suc, List, [], ◌∷◌, ◌++◌}

-- what is told of each item, or whatever comes of it, from an index on
abbrev pub AreReports : {X Y : Type 0} → (ℕ → X → List Y → Type 0) → ℕ → List X → List Y → Type 0
AreReports IsReportOf index [] all = all ≡ []
AreReports IsReportOf index (x ∷ xs) all =
    (one : List _) × (more : List _) × IsReportOf index x one × AreReports IsReportOf (suc index) xs more
    × (all ≡ one ++ more)

-- what is told of each of some items
abbrev pub AreAll : {X Y : Type 0} → (X → List Y → Type 0) → List X → List Y → Type 0
AreAll IsReportOf [] all = all ≡ []
AreAll IsReportOf (x ∷ xs) all =
    (one : List _) × (more : List _) × IsReportOf x one × AreAll IsReportOf xs more × (all ≡ one ++ more)

-- some of a kind come after what was there
abbrev pub Adds : {Y : Type 0} → (List Y → Type 0) → List Y → List Y → Type 0
Adds Are old new = (added : List _) × Are added × (new ≡ old ++ added)

-- those of one kind, and then of another
abbrev pub InTurn : {Y : Type 0} → (List Y → Type 0) → (List Y → Type 0) → List Y → Type 0
InTurn Are AreMore all = (one : List _) × (more : List _) × Are one × AreMore more × (all ≡ one ++ more)
