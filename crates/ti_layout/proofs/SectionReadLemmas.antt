-- A section whose items pass their checks is the joining of what its items are read as.
use Rattle.std.proofs.Common.{◌≡◌, ◌≢◌, ℕ, zero, suc, ◌+◌, ◌*◌, ◌<◌, ◌≤◌, true, not, List, [], ◌∷◌, ◌++◌, map, length, get_or, take, drop, replicate, refl, sym, ap, ◌∙◌, arith}
use Rattle.std.proofs.Math.Seq.{take-add}
use Rattle.std.proofs.lemmas.List.{drop-drop, map-id}
use Rattle.std.proofs.lemmas.Bool.{eqb-false, not-true}
use Rattle.std.proofs.lemmas.Bool.Decides.{nat_tests}
use Rattle.std.specs.List.{flat_map, AllByRecursion}
use Rattle.std.proofs.lemmas.List.Concat.{flat_map-cons, flat_map_single}
use Rattle.std.specs.Prelude.{is_some, unwrap_or}
use Rattle.ti_words.specs.declared.Flag.TheVariants as flags
use Rattle.ti_words.specs.Marks.{flag_of_byte, byte_of_flag}
use Rattle.ti_layout.specs.Layout.{places}
use Rattle.ti_words.specs.Texts.{is_nul}
use Rattle.ti_layout.specs.Checks.{Check, Passes, verdict}
use Rattle.ti_words.specs.Spelling.{HasNoNul, Each}
use Rattle.ti_layout.proofs.VerdictLemmas.{verdict_append}
use Rattle.ti_layout.proofs.PassesLemmas.{first_passes}
use Rattle.ti_layout.proofs.WordLemmas.{one_byte}

pub both_pass : (len : ℕ) (xs ys : List Check) → Passes ≡ verdict len (xs ++ ys) → (Passes ≡ verdict len xs) × (Passes ≡ verdict len ys)
both_pass len xs ys h = (grind (arith, verdict_append), grind (arith, verdict_append))

pub record Passed (len : ℕ) (c : Check) : Type 0 where
  pub long : c.prefix ≤ len
  pub holds : c.holds ≡ true

pub each_passed : (f : ℕ → Check) (len from size count : ℕ) → Passes ≡ verdict len (map f (places from size count)) → (i : ℕ) → i < count → Passed len (f (from + size * i))
each_passed f len from size zero h i lt = absurd (omega arith)
each_passed f len from size (suc count) h zero lt =
    let t = first_passes len (f from) _ h in
    let at : from + size * 0 ≡ from = omega arith in
    rw at (record { long = t.long; holds = t.holds })
each_passed f len from size (suc count) h (suc i) lt =
    let t = first_passes len (f from) _ h in
    let at : from + size * suc i ≡ from + size + size * i = omega arith in
    rw at (each_passed f len (from + size) size count t.rest i (omega arith))

-- what stands in a section of items of one size
pub items_are : {Y : Type 0} (bytes : List ℕ) (g : Y → List ℕ) (r : ℕ → Y) (from size count : ℕ)
    → ((i : ℕ) → i < count → take size (drop (from + size * i) bytes) ≡ g (r (from + size * i)))
    → take (size * count) (drop from bytes) ≡ flat_map g (map r (places from size count))
items_are bytes g r from size zero h = rw (zero_size size) refl
  where
    zero_size : (size : ℕ) → size * 0 ≡ 0
    zero_size size = omega arith
items_are bytes g r from size (suc count) h =
    let n : size * suc count ≡ size + size * count = omega arith in
    let at : from + size * 0 ≡ from = omega arith in
    let first : take size (drop from bytes) ≡ g (r from) = rw at at (h 0 (omega arith)) in
    let rest = items_are bytes g r (from + size) size count (λ i lt.
    let e : from + size * suc i ≡ from + size + size * i = omega arith in rw e at (h (suc i) (omega arith))) in
    ap (λ k. take k (drop from bytes)) n ∙ take-add size (size * count) (drop from bytes)
    ∙ ap (λ t. t ++ take (size * count) (drop size (drop from bytes))) first
    ∙ ap (λ t. g (r from) ++ t) (ap (take (size * count)) (drop-drop size from bytes) ∙ rest)
    ∙ sym (flat_map-cons g (r from) (map r (places (from + size) size count)))

-- relations item by item
pub each_item : {A B : Type 0} (R : A → B → Type 0) (f : ℕ → A) (g : ℕ → B) (from size count : ℕ) → ((i : ℕ) → i < count → R (f (from + size * i)) (g (from + size * i))) → Each R (map f (places from size count)) (map g (places from size count))
each_item R f g from size zero h = tt
each_item R f g from size (suc count) h =
    let at : from + size * 0 ≡ from = omega arith in (
      rw at at (h 0 (omega arith)),
      each_item R f g (from + size) size count (λ i lt.
          let e : from + size * suc i ≡ from + size + size * i = omega arith in rw e at (h (suc i) (omega arith))),
    )

pub all_items : {A : Type 0} (P : A → Type 0) (f : ℕ → A) (from size count : ℕ) → ((i : ℕ) → i < count → P (f (from + size * i))) → AllByRecursion P (map f (places from size count))
all_items P f from size zero h = tt
all_items P f from size (suc count) h =
    let at : from + size * 0 ≡ from = omega arith in (
      rw at at (h 0 (omega arith)),
      all_items P f (from + size) size count (λ i lt.
          let e : from + size * suc i ≡ from + size + size * i = omega arith in rw e at (h (suc i) (omega arith))),
    )

-- bytes that are no NUL
pub no_nuls : (bytes : List ℕ) (from count : ℕ) → from + count ≤ length bytes → ((i : ℕ) → i < count → not (is_nul (get_or bytes (from + 1 * i) 0)) ≡ true) → HasNoNul (take count (drop from bytes))
no_nuls bytes from count le h =
    let byte : ℕ → ℕ = λ p. get_or bytes p 0 in
    let one : take count (drop from bytes) ≡ map byte (places from 1 count) =
    ap (λ n. take n (drop from bytes)) (omega arith) ∙ items_are bytes (λ b. b ∷ []) byte from 1 count (λ i lt. one_byte bytes (from + 1 * i) (omega arith)) ∙ flat_map_single (λ b. b) (map byte (places from 1 count)) ∙ map-id (map byte (places from 1 count)) in
    rw one (all_items (λ b. b ≢ 0) byte from 1 count (λ i lt. eqb-false (byte (from + 1 * i)) 0 (not-true _ (h i lt))))

-- a byte that is a flag is the byte of that flag
pub flag_again : (b : ℕ) → is_some (flag_of_byte b) ≡ true → byte_of_flag (unwrap_or (flag_of_byte b) flags.No) ≡ b
flag_again b h = grind (arith, nat_tests)

pub one_by_one : {A : Type 0} (g : A → ℕ) (xs : List A) → flat_map (λ x. g x ∷ []) xs ≡ map g xs
one_by_one g xs = flat_map_single g xs

abbrev pub nul_byte : ℕ → List ℕ
nul_byte x = 0 ∷ []

pub zeros : (f : ℕ → ℕ) (from count : ℕ) → flat_map nul_byte (map f (places from 1 count)) ≡ replicate count 0
zeros f from zero = refl
zeros f from (suc count) = flat_map-cons nul_byte (f from) (map f (places (from + 1) 1 count)) ∙ ap (λ (t : List ℕ). 0 ∷ t) (zeros f (from + 1) count)
