-- Each name leads to its row by the tables of src/slots.rt, which is computed once, name by name. So no name stands twice.
use Rattle.std.proofs.Common.{◌≡◌, ◌≢◌, ◌∙◌, ℕ, ◌+◌, ◌*◌, ◌/◌, ◌%◌, ◌^◌, ◌<◌, ◌≤◌, inl, inr, List, [], ◌∷◌, length, map, drop, get_or, drop-cons, add-one, refl, sym, ap, ap₂, arith}
use Rattle.std.specs.Prelude.{Contains}
use Rattle.std.specs.List.{IsDistinct, range_with_len}
use Rattle.std.specs.Map.{keys_of, values_of}
use Rattle.std.specs.Str.{bytes_eq}
use Rattle.std.proofs.lemmas.Bool.{cases_Bool}
use Rattle.std.proofs.lemmas.List.{drop_all, get_or-map}
use Rattle.std.proofs.lemmas.List.FromFn.{get_or-map-range_with_len, get_or-range_with_len}
use Rattle.std.proofs.lemmas.Map.Entries.{length-keys_of}
use Rattle.std.proofs.lemmas.Map.Keys.{IsDistinct-from_apart}
use Rattle.std.proofs.lemmas.Slice.Eq.{bytes_eq-Decides}
use Rattle.ti_names.specs.declared.name_table.NameTable.{NameTable}
use Rattle.ti_names.specs.declared.name_table.NameTable.TheVariants as tables
use Rattle.ti_names.specs.declared.slots.TheConstants.{MULTIPLIER, SHIFTS, SLOTS}
use Rattle.ti_names.specs.AllNames.{Place, all_placed}
use Rattle.ti_names.specs.NameLists.{all_flags, all_numbers, all_texts}
use Rattle.ti_names.specs.inner.Hints.{place_of_row}

-- the hash of bytes, from that of those before them
pub hash_from : ℕ → List ℕ → ℕ
hash_from hash [] = hash
hash_from hash (byte ∷ bytes) = hash_from ((hash * MULTIPLIER % 2 ^ 32 + byte) % 2 ^ 32) bytes

-- a byte that is taken from the bytes that are left
pub byte_taken : (name : List ℕ) (index hash byte : ℕ) → index < length name → byte ≡ get_or name index 0
    → hash_from ((hash * MULTIPLIER % 2 ^ 32 + byte) % 2 ^ 32) (drop (index + 1) name) ≡ hash_from hash (drop index name)
unfolding hash_from
byte_taken name index hash byte within is =
    ap₂ (λ b next. hash_from ((hash * MULTIPLIER % 2 ^ 32 + b) % 2 ^ 32) (drop next name)) is (add-one index)
    ∙ sym (ap (hash_from hash) (drop-cons name index 0 within))

-- the row to which a hash leads
row_at : ℕ → ℕ
row_at hash = get_or SLOTS ((hash / 256 + get_or SHIFTS (hash % 256) 0) % 2048) 0

-- the row to which a name leads
pub row_for : List ℕ → ℕ
row_for name = row_at (hash_from 0 name)

-- what the tables hold at the hash of all bytes
pub row_found : (name : List ℕ) (index hash shift row : ℕ) → length name ≤ index
    → hash_from hash (drop index name) ≡ hash_from 0 name → shift ≡ get_or SHIFTS (hash % 256) 0
    → row ≡ get_or SLOTS ((hash / 256 + shift) % 2048) 0 → row_for name ≡ row
unfolding hash_from row_at row_for
row_found name index hash shift row past is at found =
    ap row_at (sym is ∙ ap (hash_from hash) (drop_all index name past))
    ∙ ap (λ s. get_or SLOTS ((hash / 256 + s) % 2048) 0) (sym at)
    ∙ sym found

-- ---- the names of a table

abbrev names_of : NameTable → List (List ℕ)
names_of table = keys_of (all_placed table)

-- each name leads to its own number
abbrev Lead : NameTable → Type 0
Lead table = map row_for (names_of table) ≡ range_with_len 0 (length (names_of table))

short_names_lead : Lead tables.All
unfolding hash_from row_at row_for all_flags all_numbers all_texts
short_names_lead = refl

long_names_lead : Lead tables.Long
unfolding hash_from row_at row_for all_flags all_numbers all_texts
long_names_lead = refl

lead : (table : NameTable) → Lead table
lead tables.Common = short_names_lead
lead tables.All = short_names_lead
lead tables.Long = long_names_lead

-- the capability of a row is that of the name with its number
abbrev AreRows : NameTable → Type 0
AreRows table = map place_of_row (range_with_len 0 (length (names_of table))) ≡ values_of (all_placed table)

rows_are : (table : NameTable) → AreRows table
unfolding all_flags all_numbers all_texts
rows_are tables.Common = refl
rows_are tables.All = refl
rows_are tables.Long = refl

row_is : (table : NameTable) (index : ℕ) (name : List ℕ) → index < length (names_of table)
    → row_for (get_or (names_of table) index name) ≡ index
row_is table index name within =
    sym (get_or-map row_for (names_of table) index name (row_for name) within)
    ∙ ap (λ rows. get_or rows index (row_for name)) (lead table)
    ∙ get_or-range_with_len 0 (length (names_of table)) index (row_for name) within
    ∙ omega arith

-- names of two rows are different
apart : (table : NameTable) (i j : ℕ) (name : List ℕ) → i < j → j < length (names_of table)
    → get_or (names_of table) i name ≢ get_or (names_of table) j name
apart table i j name before within same =
    let first = row_is table i name (omega (arith, before, within)) in
    let equal : i ≡ j = sym first ∙ ap row_for same ∙ row_is table j name within in
    omega (arith, before, equal)

pub are_distinct : (table : NameTable) → IsDistinct bytes_eq (keys_of (all_placed table))
are_distinct table =
    let name : ℕ → List ℕ → List ℕ = λ i other. get_or (names_of table) i other in
    IsDistinct-from_apart bytes_eq (names_of table) (λ i j other before within. elim (cases_Bool (bytes_eq (name i other) (name j other))) [
      | inl same ↦ absurd (apart table i j other before within ((bytes_eq-Decides (name i other) (name j other)).0 same))
      | inr differs ↦ differs
    ])

abbrev Placed : Type 0
Placed = List ℕ × Place

-- a name of the table leads to its place
pub leads_to : (table : NameTable) (name : List ℕ) (place : Place) → Contains (all_placed table) (name, place)
    → place_of_row (row_for name) ≡ place
leads_to table name place (index, within, at) =
    let count = length (names_of table) in
    let inside : index < count = omega (arith, within, length-keys_of (all_placed table)) in
    let key = get_or-map (λ (one : Placed). one.0) (all_placed table) index (name, place) name within in
    let value = get_or-map (λ (one : Placed). one.1) (all_placed table) index (name, place) place within in
    ap (λ n. place_of_row (row_for n)) (sym (key ∙ ap (λ (one : Placed). one.0) at))
    ∙ ap place_of_row (row_is table index name inside)
    ∙ sym (get_or-map-range_with_len place_of_row 0 count index index place inside (omega arith))
    ∙ ap (λ places. get_or places index place) (rows_are table)
    ∙ value
    ∙ ap (λ (one : Placed). one.1) at
