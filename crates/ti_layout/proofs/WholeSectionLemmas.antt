-- A section passes its checks if its greatest item, lifted, is small.
use Rattle.std.proofs.Common.{◌≡◌, ℕ, zero, suc, ◌+◌, ◌*◌, ◌%◌, ◌<◌, ◌≤◌, ltb, ℤ, pos, negsuc, true, not, List, [], ◌∷◌, map, length, refl, sym, ap, ◌∙◌, arith}
use Rattle.std.proofs.lemmas.Bool.Decides.{nat_tests}
use Rattle.std.proofs.lemmas.Int.{ints}
use Rattle.std.proofs.Math.Nat.{mul-le-mul_left}
use Rattle.std.proofs.lemmas.Bool.{le-ltb, lt-ltb, ne_eqb, agree_below_at}
use Rattle.std.specs.List.{flat_map}
use Rattle.std.proofs.lemmas.List.Concat.{flat_map-cons, flat_map_single}
use Rattle.std.specs.Prelude.{is_some}
use Rattle.ti_base.specs.Limits.{greatest_word, greatest_wide_word}
use Rattle.ti_words.specs.Marks.{flag_of_byte}
use Rattle.ti_layout.specs.declared.section.SectionItems.{SectionItems}
use Rattle.ti_words.specs.Word.{signed}
use Rattle.ti_layout.specs.Layout.{places}
use Rattle.ti_words.specs.Texts.{is_nul}
use Rattle.ti_layout.specs.Checks.{Check, Passes, verdict, is_not_negative, is_number_word, is_offset_below}
use Rattle.ti_layout.specs.LastNul.{is_before}
use Rattle.ti_layout.specs.Refusal.{item_size, item_holds, item_check, items_checks}
use Rattle.ti_layout.specs.Stages.{first_items}
use Rattle.ti_layout.proofs.VerdictLemmas.{then, verdict_append}
use Rattle.ti_layout.proofs.SectionReadLemmas.{Passed}

-- ---- checks that pass one by one

pub all_pass_each : (f : ℕ → List Check) (len from size count : ℕ) → ((i : ℕ) → i < count → Passes ≡ verdict len (f (from + size * i))) → Passes ≡ verdict len (flat_map f (places from size count))
all_pass_each f len from size zero h = refl
all_pass_each f len from size (suc count) h =
    let at : from + size * 0 ≡ from = omega arith in
    let first : Passes ≡ verdict len (f from) = rw at at (h 0 (omega arith)) in
    let rest = all_pass_each f len (from + size) size count (λ i lt.
    let e : from + size * suc i ≡ from + size + size * i = omega arith in rw e at (h (suc i) (omega arith))) in
    rest
    ∙ ap (λ v. then v (verdict len (flat_map f (places (from + size) size count)))) first
    ∙ sym (ap (verdict len) (flat_map-cons f from (places (from + size) size count)) ∙ verdict_append len (f from) (flat_map f (places (from + size) size count)))

pub all_pass : (f : ℕ → Check) (len from size count : ℕ) → ((i : ℕ) → i < count → Passed len (f (from + size * i))) → Passes ≡ verdict len (map f (places from size count))
all_pass f len from size count h =
    all_pass_each (λ p. f p ∷ []) len from size count (λ i lt. (let t = h i lt in rw (le-ltb len (f (from + size * i)).prefix t.long, t.holds) refl))
    ∙ ap (verdict len) (flat_map_single f (places from size count))

pub items_pass : (bytes : List ℕ) (it : SectionItems) (count : ℕ) → it.at + item_size it.item * count ≤ length bytes
    → ((i : ℕ) → i < count → item_holds bytes it.item (it.at + item_size it.item * i) ≡ true) → Passes ≡ verdict (length bytes) (items_checks bytes (first_items count it))
items_pass bytes it count there h = all_pass (item_check bytes it.item) (length bytes) it.at (item_size it.item) count (λ i lt. record {
  long = (let within = mul-le-mul_left {m = suc i} {n = count} (item_size it.item) (omega arith) in omega (arith, within));
  holds = h i lt;
})

-- ---- one item

pub no_nul : (b g : ℕ) → b < 256 → (b + 255) % 256 ≤ g → g < 255 → not (is_nul b) ≡ true
no_nul b g fits most small = rw (ne_eqb b 0 (λ e. absurd (omega arith))) refl

pub is_flag : (b g : ℕ) → b < 256 → (b + 2) % 256 ≤ g → g < 4 → is_some (flag_of_byte b) ≡ true
is_flag b g fits most small = agree_below_at (λ n. is_some (flag_of_byte n)) (λ n. ltb ((n + 2) % 256) 4) 256 b refl fits ∙ lt-ltb _ _ (omega arith)

pub not_negative : (u g : ℕ) → u < 65536 → (u + 0) % 65536 ≤ g → g < greatest_word + 1 → is_not_negative (signed 2 u) ≡ true
not_negative u g fits most small = grind (arith, ints, nat_tests)

pub wide_number : (u g : ℕ) → u < 4294967296 → (u + 2) % 4294967296 ≤ g → g < greatest_wide_word + 3 → is_number_word (signed 4 u) ≡ true
wide_number u g fits most small = grind (arith, ints, nat_tests)

pub offset_below : (u limit g : ℕ) → u < 65536 → (u + 2) % 65536 ≤ g → g < limit + 2 → g < greatest_word + 3 → is_offset_below limit (signed 2 u) ≡ true
offset_below u limit g fits most low small = grind (arith, ints, nat_tests)

-- an offset below a limit is a number, and a mark or a place before it
pub number : (limit : ℕ) (z : ℤ) → is_offset_below limit z ≡ true → is_number_word z ≡ true
number limit (pos n) h = refl
number limit (negsuc n) h = h

pub before : (limit : ℕ) (z : ℤ) → is_offset_below limit z ≡ true → is_before limit z ≡ true
before limit (pos n) h = h
before limit (negsuc n) h = refl
