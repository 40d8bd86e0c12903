-- A name is first at one index at most.
use Rattle.std.proofs.Common.{◌≡◌, ℕ, zero, suc, List, [], ◌∷◌, take, refl, ap}
use Rattle.std.specs.Prelude.{Option, Some, None, slice_get}
use Rattle.ti_entry.specs.Finding.{Lacks, IsLeastIndex}

pub not_there : (names : List (List ℕ)) (name : List ℕ) (i : ℕ) → Lacks names name → slice_get names i ≡ Some name → ⊥
not_there [] name i lacks is = absurd cc
not_there (n ∷ ns) name zero lacks is = lacks.0 (let same : n ≡ name = cc in same)
not_there (n ∷ ns) name (suc i) lacks is = not_there ns name i lacks.1 is

pub one_index : (names : List (List ℕ)) (name : List ℕ) (i j : ℕ) → slice_get names i ≡ Some name → Lacks (take i names) name → slice_get names j ≡ Some name → Lacks (take j names) name → i ≡ j
one_index [] name i j is before other earlier = absurd cc
one_index (n ∷ ns) name zero zero is before other earlier = refl
one_index (n ∷ ns) name zero (suc j) is before other earlier = absurd (earlier.0 (let same : n ≡ name = cc in same))
one_index (n ∷ ns) name (suc i) zero is before other earlier = absurd (before.0 (let same : n ≡ name = cc in same))
one_index (n ∷ ns) name (suc i) (suc j) is before other earlier = ap suc (one_index ns name i j is before.1 other earlier.1)

pub one_first : (names : List (List ℕ)) (name : List ℕ) (found other : Option ℕ) → IsLeastIndex names name found → IsLeastIndex names name other → found ≡ other
one_first names name None None f o = refl
one_first names name None (Some j) f o = absurd (not_there names name j f o.0)
one_first names name (Some i) None f o = absurd (not_there names name i o f.0)
one_first names name (Some i) (Some j) f o = ap Some (one_index names name i j f.0 f.1 o.0 o.1)
