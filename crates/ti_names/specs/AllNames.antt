-- The three tables of names: the common ones, all of the header term.h of ncurses 6.4, and all long ones.
use Rattle.std.specs.Prelude.{◌≡◌, ◌↔◌, ℕ, ◌-◌, Bool, true, false, List, [], ◌∷◌, ◌++◌, IfSome, filter, length, map, take, Option, Some, None, slice_get, unwrap_or, if◌then◌else◌}
use Rattle.std.specs.List.{enumerate_from}
use Rattle.std.specs.Map.{lookup}
use Rattle.std.specs.Str.{bytes_eq}
use Rattle.ti_words.specs.declared.Kind.{Kind}
use Rattle.ti_words.specs.declared.Kind.TheVariants as kinds
use Rattle.ti_names.specs.declared.name_table.NameTable.{NameTable}
use Rattle.ti_names.specs.declared.name_table.NameTable.TheVariants as tables
use Rattle.ti_names.specs.NameLists.{rows}

-- where a capability lies
abbrev pub Place : Type 0
Place = Kind × ℕ

-- a name as the code's lists hold it, for programs in C: with a NUL after it
abbrev pub with_nul : List ℕ → List ℕ
with_nul name = name ++ 0 ∷ []

-- the bytes but the last one
abbrev pub front : List ℕ → List ℕ
front bytes = take (length bytes - 1) bytes

-- ---- the three tables

-- the names of a kind among which those of a table are, each at its index
abbrev pub listed : NameTable → Kind → List (List ℕ)
listed tables.Common kind = map (λ row. row.0) (rows kind)
listed tables.All kind = map (λ row. row.0) (rows kind)
listed tables.Long kind = map (λ row. row.1) (rows kind)

-- whether a table has the name at an index of a kind, if there is one
abbrev pub has_index : NameTable → Kind → ℕ → Bool
has_index tables.Common kind index = unwrap_or (slice_get (map (λ row. row.2) (rows kind)) index) false
has_index tables.All kind index = true
has_index tables.Long kind index = true

-- in the table, the capability of the kind at the index has the name
abbrev pub IsNamedIn : NameTable → Kind → ℕ → List ℕ → Type 0
IsNamedIn table kind index name =
    (has_index table kind index ≡ true) × (slice_get (listed table kind) index ≡ Some name)

-- the name that a table has for a kind and an index, if it has one
abbrev pub name_in : NameTable → Kind → ℕ → Option (List ℕ)
name_in table kind index = if has_index table kind index then slice_get (listed table kind) index else None

-- names of a kind from an index on, each with its place
abbrev pub placed_from : Kind → ℕ → List (List ℕ) → List (List ℕ × Place)
placed_from kind index names = map (λ named. (named.1, (kind, named.0))) (enumerate_from index names)

-- the names of a kind among which those of a table are, each with its place
abbrev pub placed : NameTable → Kind → List (List ℕ × Place)
placed table kind = placed_from kind 0 (listed table kind)

-- the same for all kinds
abbrev pub all_placed : NameTable → List (List ℕ × Place)
all_placed table = placed table kinds.Flag ++ (placed table kinds.Number ++ placed table kinds.Text)

-- those of some names that a table has at their places
abbrev pub kept : NameTable → List (List ℕ × Place) → List (List ℕ × Place)
kept table names = filter (λ named. has_index table named.1.0 named.1.1) names

-- the place of the capability with a name, if the table has the name
abbrev pub place_in : NameTable → List ℕ → Option Place
place_in table name = lookup (bytes_eq name) (kept table (all_placed table))

-- the name of a capability in a table, if it has one there, and no other
pub record IsNameAt (table : NameTable) (kind : Kind) (index : ℕ) (name : Option (List ℕ)) : Type 0 where
  pub value : name ≡ name_in table kind index
  pub found : IfSome name (IsNamedIn table kind index)
  pub only : (other : List ℕ) → IsNamedIn table kind index other → name ≡ Some other

-- the place of a name in a table, if the table has the name, and no other
pub record IsPlaceOf (table : NameTable) (name : List ℕ) (place : Option Place) : Type 0 where
  pub value : place ≡ place_in table name
  pub found : IfSome place (λ at. IsNamedIn table at.0 at.1 name)
  pub only : (at : Place) → IsNamedIn table at.0 at.1 name → place ≡ Some at

-- ---- the laws of each table

-- a capability has one name
abbrev pub HasOneNameIn : NameTable → Type 0
HasOneNameIn table =
    (kind : Kind) (index : ℕ) (name other : List ℕ) → IsNamedIn table kind index name → IsNamedIn table kind index other
    → name ≡ other

-- no name stands twice, not even under two kinds
abbrev pub HasOnePlaceIn : NameTable → Type 0
HasOnePlaceIn table =
    (kind kind' : Kind) (index index' : ℕ) (name : List ℕ) → IsNamedIn table kind index name
    → IsNamedIn table kind' index' name → (kind ≡ kind') × (index ≡ index')

-- the table read both ways: each way undoes the other
abbrev pub NameAndPlaceAgreeIn : NameTable → Type 0
NameAndPlaceAgreeIn table =
    (kind : Kind) (index : ℕ) (name : List ℕ)
    → (name_in table kind index ≡ Some name) ↔ (place_in table name ≡ Some (kind, index))

-- each name has a byte
abbrev pub HasNoEmptyNameIn : NameTable → Type 0
HasNoEmptyNameIn table = (kind : Kind) (index : ℕ) → ¬ IsNamedIn table kind index []

-- a common name stands among all names at the same place
abbrev pub CommonNamesAreNames : Type 0
CommonNamesAreNames =
    (kind : Kind) (index : ℕ) (name : List ℕ) → IsNamedIn tables.Common kind index name
    → IsNamedIn tables.All kind index name

-- the long names of a kind are as many as the short ones, so a capability has both or none
abbrev pub EachHasALongName : Type 0
EachHasALongName = (kind : Kind) → length (listed tables.Long kind) ≡ length (listed tables.All kind)
