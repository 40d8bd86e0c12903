-- The checks of the names of a part, by the base as far as it is known.
use Rattle.std.proofs.Common.{◌≡◌, ℕ, ◌-◌, ◌<◌, ◌≤◌, false, List, length, take, drop, inl, inr, refl, sym, ap, ◌∙◌, arith}
use Rattle.std.proofs.lemmas.Bool.Decides.{nat_tests}
use Rattle.std.proofs.Math.Path.{fun_ext}
use Rattle.std.proofs.lemmas.List.{length-take-le, length-drop, drop_all}
use Rattle.std.proofs.lemmas.List.Concat.{flat_map-cons}
use Rattle.std.proofs.lemmas.Bool.{cases_lt, ne_eqb}
use Rattle.std.specs.List.{flat_map, list_any}
use Rattle.std.specs.Prelude.{min}
use Rattle.ti_words.specs.Texts.{is_nul}
use Rattle.ti_layout.specs.declared.part.Part.{Part}
use Rattle.ti_layout.specs.Layout.{places, offsets_from, names_from, table_from, end_of}
use Rattle.ti_layout.specs.Table.{ends_in, table_of, sizes_at, base_of, names_base}
use Rattle.ti_layout.specs.Checks.{Passes, verdict, ending_checks, name_place_checks, all_name_place_checks}
use Rattle.ti_layout.specs.Refusal.{text_checks}
use Rattle.ti_layout.proofs.SectionReadLemmas.{both_pass}

pub table_length : (bytes : List ℕ) (x : Part) → end_of x ≤ length bytes → length (table_of bytes x) ≡ x.table
table_length bytes x le = length-take-le x.table (drop (table_from x) bytes) (omega (arith, length-drop (table_from x) bytes))

-- the bytes from the front of the table to the end of the part
pub slice_is : (bytes : List ℕ) (p : Part) {from end : ℕ} → from ≡ table_from p → end ≡ end_of p → take (end - from) (drop from bytes) ≡ table_of bytes p
slice_is bytes p {from = from} {end = end} f e = let s : end - from ≡ p.table = omega arith in rw (s, f) refl

-- a base past the table is as good as its size
base_decides : (bytes table : List ℕ) (base end p : ℕ) → name_place_checks bytes table (min base (length table)) end p ≡ name_place_checks bytes table base end p
base_decides bytes table base end p =
    let none : (place : ℕ) → length table ≤ place → ends_in table place ≡ false = λ place le. ap (list_any is_nul) (drop_all place table le) in grind (arith, nat_tests)

pub names_decide : (bytes table : List ℕ) (base end : ℕ) (ps : List ℕ) → all_name_place_checks bytes table (min base (length table)) end ps ≡ all_name_place_checks bytes table base end ps
names_decide bytes table base end ps = ap (λ f. flat_map f ps) (fun_ext (λ p. base_decides bytes table base end p))

-- the checks of the names of a part, by what the code knows of it
pub names_of_part : (bytes : List ℕ) (p : Part) {from end offsets names base : ℕ}
    → from ≡ table_from p → end ≡ end_of p → offsets ≡ offsets_from p → names ≡ names_from p
    → base ≡ min (sizes_at bytes (take (end - from) (drop from bytes)) (places offsets 2 p.texts)) (length (take (end - from) (drop from bytes)))
    → all_name_place_checks bytes (take (end - from) (drop from bytes)) base end (places names 2 p.names)
    ≡ all_name_place_checks bytes (table_of bytes p) (base_of bytes p) (end_of p) (places (names_from p) 2 p.names)
names_of_part bytes p f e o n b = rw (b, slice_is bytes p f e, e, o, n) (names_decide bytes (table_of bytes p) (base_of bytes p) (end_of p) (places (names_from p) 2 p.names))

-- if some name lies in the table, the base is exact
exact : (bytes table : List ℕ) (base len end from count : ℕ) → 0 < count → Passes ≡ verdict len (all_name_place_checks bytes table base end (places from 2 count)) → min base (length table) ≡ base
exact bytes table base len end from count some h = grind (arith, nat_tests, flat_map-cons)

-- if the names pass, the base is exact
pub base_exact : (bytes : List ℕ) (p : Part) (base len : ℕ) → 0 < p.names → end_of p ≤ length bytes → base ≡ min (base_of bytes p) p.table
    → Passes ≡ verdict len (all_name_place_checks bytes (table_of bytes p) (base_of bytes p) (end_of p) (places (names_from p) 2 p.names))
    → base ≡ names_base bytes p
base_exact bytes p base len some le b h =
    rw (ne_eqb p.names 0 (λ e. absurd (omega arith))) (b ∙ ap (min (base_of bytes p)) (sym (table_length bytes p le)) ∙ exact bytes (table_of bytes p) (base_of bytes p) len (end_of p) (names_from p) p.names some h)

-- so it is no greater than the table
pub base_most : (bytes : List ℕ) (p : Part) → end_of p ≤ length bytes → Passes ≡ verdict (length bytes) (text_checks bytes p) → names_base bytes p ≤ p.table
base_most bytes p le h =
    elim (cases_lt 0 p.names) [
      | inl some ↦
          let passed = both_pass (length bytes) (ending_checks bytes (table_of bytes p) (end_of p) (offsets_from p) p.texts) _ h in
          omega (arith, base_exact bytes p (min (base_of bytes p) p.table) (length bytes) some le refl passed.1)
      | inr none ↦ (let e : p.names ≡ 0 = omega arith in rw e (omega arith))
    ]
