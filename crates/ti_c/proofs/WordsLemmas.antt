-- Each row of the table of words is that of a fault.
use Rattle.std.proofs.Common.{◌≡◌, ℕ, zero, suc, inl, inr, List, [], ◌∷◌, Some, map, ◌++◌, sym, ap, nat_eq, eqb-true, arith}
use Rattle.std.specs.Prelude.{Contains}
use Rattle.std.specs.Map.{lookup}
use Rattle.std.proofs.lemmas.List.Elements.{Contains-append_cases}
use Rattle.std.proofs.lemmas.Map.Views.{Contains-from_lookup}
use Rattle.ti_c.specs.Words.{IsWord, Row, other_rows}
use Rattle.ti_c.specs.inner.WordRows.{capability_faults, capability_row, entry_faults, entry_row, word_rows}

-- the rows after those of entries
abbrev after_entries : List Row
after_entries = map capability_row capability_faults ++ other_rows

mapped : {X Y : Type 0} (f : X → Y) (xs : List X) (y : Y) → Contains (map f xs) y → (x : X) × (f x ≡ y)
mapped f [] y (k, within, e) = absurd (omega (arith, within))
mapped f (x ∷ xs) y (zero, within, e) = (x, e)
mapped f (x ∷ xs) y (suc k, within, e) = mapped f xs y (k, omega (arith, within), e)

from_entries : (row : Row) → Contains (map entry_row entry_faults) row → IsWord row.0 row.1
from_entries row h =
    let m = mapped entry_row entry_faults row h in
    inl (m.0, ap (λ (r : Row). r.0) (sym m.1), ap (λ (r : Row). r.1) (sym m.1))

from_capabilities : (row : Row) → Contains (map capability_row capability_faults) row → IsWord row.0 row.1
from_capabilities row h =
    let m = mapped capability_row capability_faults row h in
    inr (inl (m.0, ap (λ (r : Row). r.0) (sym m.1), ap (λ (r : Row). r.1) (sym m.1)))

from_rows : (row : Row) → Contains word_rows row → IsWord row.0 row.1
from_rows row h = elim (Contains-append_cases (map entry_row entry_faults) after_entries row h) [
  | inl a ↦ from_entries row a
  | inr b ↦ elim (Contains-append_cases (map capability_row capability_faults) other_rows row b) [
    | inl c ↦ from_capabilities row c
    | inr d ↦ inr (inr d)
  ]
]

pub word_found : (number : ℕ) (word : List ℕ) → lookup (nat_eq number) word_rows ≡ Some word → IsWord number word
word_found number word e = from_rows (number, word) (Contains-from_lookup eqb-true number word word_rows e)
