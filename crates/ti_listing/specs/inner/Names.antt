-- Names that are kept in the order of their lengths, and those of one length in that of their bytes.
use Rattle.std.specs.Prelude.{◌≡◌, ℕ, Bool, List, Option, length}
use Rattle.std.specs.Borrow.{Bor}
use Rattle.std.specs.BTreeMap as tree
use Rattle.std.specs.BTreeMap.{BTreeMap}
use Rattle.std.specs.BTreeSet as sorted
use Rattle.std.specs.BTreeSet.{BTreeSet}
use Rattle.std.specs.Cmp.Lexicographic.{slice_cmp}
use Rattle.std.specs.declared.cmp.Ordering.{Ordering}
use Rattle.std.specs.Ordering.{nat_cmp, ordering_then}
use Rattle.ti_entry.specs.Finding.{IsLeastIndex}
use Rattle.ti_listing.specs.Differences.{has}

-- a name after its length
abbrev pub NameKey : Type 0
NameKey = ℕ × Bor (List ℕ)

-- how a name stands to one that is kept
abbrev pub compare_name : List ℕ → NameKey → Ordering
compare_name name key = ordering_then (nat_cmp (length name) key.0) (slice_cmp nat_cmp name key.1.now)

-- whether a set has a name
abbrev pub is_kept : BTreeSet NameKey → List ℕ → Bool
is_kept kept name = sorted.contains_by (compare_name name) kept

-- a set has the names of a list
abbrev pub IsSetOf : List (List ℕ) → BTreeSet NameKey → Type 0
IsSetOf names kept = (name : List ℕ) → is_kept kept name ≡ has names name

-- what a map has at a name
abbrev pub index_of : BTreeMap NameKey ℕ → List ℕ → Option ℕ
index_of firsts name = tree.get_by (compare_name name) firsts

-- at each name a map has the least index that a list has it at
abbrev pub HasFirst : List (List ℕ) → BTreeMap NameKey ℕ → Type 0
HasFirst names firsts = (name : List ℕ) → IsLeastIndex names name (index_of firsts name)
