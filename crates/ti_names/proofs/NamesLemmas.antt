-- In each table no name stands twice: a name and its kind and index determine each other.
use Rattle.std.proofs.Common.{◌≡◌, ◌∙◌, ℕ, ◌+◌, ◌<◌, Bool, true, false, cond, inl, inr, List, [], length, get_or, Option, Some, None, refl, sym, ap, subst, arith}
use Rattle.std.specs.Prelude.{Contains, IfSome, slice_get}
use Rattle.std.specs.List.{enumerate_from}
use Rattle.std.specs.Map.{lookup}
use Rattle.std.specs.Str.{bytes_eq}
use Rattle.std.proofs.lemmas.Cmp.{nat_list_eq_equiv}
use Rattle.std.proofs.lemmas.List.{get_or-map, length-map}
use Rattle.std.proofs.lemmas.List.Elements.{Contains-append_cases, Contains-append_left, Contains-append_right}
use Rattle.std.proofs.lemmas.List.FromFn.{get_or-enumerate_from, length-enumerate_from}
use Rattle.std.proofs.lemmas.Map.Entries.{lookup-filter-values, option_filter}
use Rattle.std.proofs.lemmas.Map.Views.{Contains-from_lookup, lookup-from_Contains}
use Rattle.std.proofs.lemmas.Option.{get_or_from_slice_get, none-some, cond_some, some_pair_parts, slice_get-get_or, slice_get_within}
use Rattle.std.proofs.lemmas.Slice.Eq.{bytes_eq-Decides}
use Rattle.ti_words.specs.declared.Kind.{Kind}
use Rattle.ti_words.specs.declared.Kind.TheVariants as kinds
use Rattle.ti_names.specs.declared.name_table.NameTable.{NameTable}
use Rattle.ti_names.specs.declared.name_table.NameTable.TheVariants as tables
use Rattle.ti_names.specs.AllNames.{HasNoEmptyNameIn, HasOnePlaceIn, IsNameAt, IsNamedIn, NameAndPlaceAgreeIn, Place, all_placed, has_index, listed, name_in, place_in, placed, placed_from}
use Rattle.ti_names.specs.inner.Hints.{IsOnlyPlace, IsRowOf}
use Rattle.ti_names.specs.NameLists.{all_flags, all_numbers, all_texts}
use Rattle.ti_names.proofs.HintLemmas.{are_distinct, leads_to, row_for}

-- ---- a name in its list, and its place

count : (kind : Kind) (names : List (List ℕ)) → length (placed_from kind 0 names) ≡ length names
count kind names = length-map (enumerate_from 0 names) _ ∙ length-enumerate_from 0 names

at : (kind : Kind) (names : List (List ℕ)) (index : ℕ) (other : List ℕ × Place) → index < length names
    → get_or (placed_from kind 0 names) index other ≡ (get_or names index other.0, (kind, index))
at kind names index other within =
    let start : 0 + index ≡ index = omega arith in
    get_or-map (λ named. (named.1, (kind, named.0))) (enumerate_from 0 names) index (0, other.0) other (omega (arith, within, length-enumerate_from 0 names))
    ∙ ap (λ named. (named.1, (kind, named.0))) (get_or-enumerate_from 0 names index (0, other.0) within)
    ∙ ap (λ i. (get_or names index other.0, (kind, i))) start

to_kind : (table : NameTable) (kind : Kind) (index : ℕ) (name : List ℕ) → slice_get (listed table kind) index ≡ Some name
    → Contains (placed table kind) (name, (kind, index))
to_kind table kind index name is =
    let within = slice_get_within (listed table kind) index name is in (
      index,
      omega (arith, within, count kind (listed table kind)),
      at kind (listed table kind) index (name, (kind, index)) within
          ∙ ap (λ n. (n, (kind, index))) (get_or_from_slice_get (listed table kind) index name name is),
    )

to_table : (table : NameTable) (kind : Kind) (index : ℕ) (name : List ℕ) → slice_get (listed table kind) index ≡ Some name
    → Contains (all_placed table) (name, (kind, index))
to_table table kinds.Flag index name is = Contains-append_left (placed table kinds.Flag) _ _ (to_kind table kinds.Flag index name is)
to_table table kinds.Number index name is =
    Contains-append_right (placed table kinds.Flag) _ _
    (Contains-append_left (placed table kinds.Number) (placed table kinds.Text) _ (to_kind table kinds.Number index name is))
to_table table kinds.Text index name is =
    Contains-append_right (placed table kinds.Flag) _ _
    (Contains-append_right (placed table kinds.Number) (placed table kinds.Text) _ (to_kind table kinds.Text index name is))

from_kind : (table : NameTable) (kind : Kind) (name : List ℕ) (place : Place) → Contains (placed table kind) (name, place)
    → slice_get (listed table place.0) place.1 ≡ Some name
from_kind table kind name place (index, within, e) =
    let inside : index < length (listed table kind) = omega (arith, within, count kind (listed table kind)) in
    subst (λ (p : List ℕ × Place). slice_get (listed table p.1.0) p.1.1 ≡ Some p.0)
    (sym (at kind (listed table kind) index (name, place) inside) ∙ e)
    (slice_get-get_or (listed table kind) index name inside)

from_table : (table : NameTable) (name : List ℕ) (place : Place) → Contains (all_placed table) (name, place)
    → slice_get (listed table place.0) place.1 ≡ Some name
from_table table name place c = elim (Contains-append_cases _ _ _ c) [
  | inl flag ↦ from_kind table kinds.Flag name place flag
  | inr rest ↦ elim (Contains-append_cases _ _ _ rest) [
    | inl number ↦ from_kind table kinds.Number name place number
    | inr text ↦ from_kind table kinds.Text name place text
  ]
]

-- ---- the laws

abbrev has_place : NameTable → Place → Bool
has_place table place = has_index table place.0 place.1

place_is : (table : NameTable) (name : List ℕ) → place_in table name ≡ option_filter (has_place table) (lookup (bytes_eq name) (all_placed table))
place_is table name = lookup-filter-values nat_list_eq_equiv (has_place table) name (all_placed table) (are_distinct table)

passed : {X : Type 0} (p : X → Bool) (o : Option X) (y : X) → option_filter p o ≡ Some y → (p y ≡ true) × (o ≡ Some y)
passed p None y e = absurd (none-some y e)
passed {X = X} p (Some x) y e = let (is, same) = cond_some (p x) x y e in subst (λ (z : X). (p z ≡ true) × (Some x ≡ Some z)) same (is, refl)

place_found : (table : NameTable) (name : List ℕ) (place : Place) → place_in table name ≡ Some place
    → IsNamedIn table place.0 place.1 name
place_found table name place e =
    let (has, is) = passed (has_place table) (lookup (bytes_eq name) (all_placed table)) place (sym (place_is table name) ∙ e) in
    (has, from_table table name place (Contains-from_lookup (λ x y e. (bytes_eq-Decides x y).0 e) name place (all_placed table) is))

pub found_by : (table : NameTable) (name : List ℕ) (r : Option Place) → r ≡ place_in table name
    → IfSome r (λ place. IsNamedIn table place.0 place.1 name)
found_by table name None e = tt
found_by table name (Some place) e = place_found table name place (sym e)

pub place_only : (table : NameTable) (place : Place) (name : List ℕ) → IsNamedIn table place.0 place.1 name
    → place_in table name ≡ Some place
place_only table place name (has, is) =
    place_is table name
    ∙ ap (option_filter (has_place table))
    (lookup-from_Contains nat_list_eq_equiv name place (all_placed table) (are_distinct table) (to_table table place.0 place.1 name is))
    ∙ ap (λ b. cond b (Some place) None) has

pub one_place : (table : NameTable) → HasOnePlaceIn table
one_place table kind kind' index index' name here there =
    some_pair_parts kind kind' index index' (sym (place_only table (kind, index) name here) ∙ place_only table (kind', index') name there)

named : (b : Bool) (o : Option (List ℕ)) (name : List ℕ) → cond b o None ≡ Some name → (b ≡ true) × (o ≡ Some name)
named true o name e = (refl, e)
named false o name e = absurd (none-some name e)

if_named : (table : NameTable) (kind : Kind) (index : ℕ) (name : Option (List ℕ)) → name ≡ name_in table kind index
    → IfSome name (IsNamedIn table kind index)
if_named table kind index None e = tt
if_named table kind index (Some name) e = named (has_index table kind index) _ name (sym e)

-- what the table has at the index is the only name there
pub named_at : (table : NameTable) (kind : Kind) (index : ℕ) (name : Option (List ℕ)) → name ≡ name_in table kind index
    → IsNameAt table kind index name
named_at table kind index name e = record {
  value = e;
  found = if_named table kind index name e;
  only = λ other (has, is). e ∙ ap (λ b. cond b (slice_get (listed table kind) index) None) has ∙ is;
}

pub inverse : (table : NameTable) → NameAndPlaceAgreeIn table
inverse table kind index name = (
  λ e. place_only table (kind, index) name (named (has_index table kind index) _ name e),
  λ e. let (has, is) = place_found table name (kind, index) e in ap (λ b. cond b (slice_get (listed table kind) index) None) has ∙ is,
)

none_is_empty : (table : NameTable) → place_in table [] ≡ None
unfolding all_flags all_numbers all_texts
none_is_empty tables.Common = refl
none_is_empty tables.All = refl
none_is_empty tables.Long = refl

pub not_empty : (table : NameTable) → HasNoEmptyNameIn table
not_empty table kind index is = none-some (kind, index) (sym (none_is_empty table) ∙ place_only table (kind, index) [] is)

-- ---- a name and the only place that can have it

-- no capability but that of the row to which it leads has the name
pub only_row : (name : List ℕ) → IsRowOf name (row_for name)
only_row name table at (has, is) = leads_to table name at (to_table table at.0 at.1 name is)

-- a name that stands there has that place
pub there : (table : NameTable) (name : List ℕ) (place : Place) → name_in table place.0 place.1 ≡ Some name
    → Some place ≡ place_in table name
there table name place is = sym ((inverse table place.0 place.1 name).0 is)

none_of : {X : Type 0} (o : Option X) → ((x : X) → o ≡ Some x → ⊥) → None ≡ o
none_of None other = refl
none_of (Some x) other = absurd (other x refl)

-- and if another name stands there, it has none
pub nowhere : (table : NameTable) (name : List ℕ) (place : Place) → IsOnlyPlace name place
    → ¬ (name_in table place.0 place.1 ≡ Some name) → None ≡ place_in table name
nowhere table name place only other =
    none_of (place_in table name) (λ at is.
    other ((inverse table place.0 place.1 name).1 (is ∙ ap Some (sym (only table at (place_found table name at is))))))
