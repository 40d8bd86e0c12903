-- Entries without a fault: their canonical bytes are few, and so are the items of each section.
use Rattle.std.proofs.Common.{◌≡◌, ℕ, ◌+◌, ◌*◌, ◌<◌, ◌≤◌, ◌^◌, ◌==◌, false, List, [], ◌∷◌, ◌++◌, length, map, None, refl, arith}
use Rattle.std.proofs.lemmas.Grind.{common_steps}
use Rattle.std.proofs.lemmas.Bool.Decides.{nat_tests}
use Rattle.std.proofs.lemmas.List.{length-append}
use Rattle.std.specs.List.{list_any}
use Rattle.ti_words.specs.declared.Width.{Width}
use Rattle.ti_words.specs.Texts.{TextValue, TextOf}
use Rattle.ti_words.specs.Value.{PartValue, EntryValue}
use Rattle.ti_words.specs.Widths.{number_size}
use Rattle.ti_words.specs.Spelling.{without_names, part_names}
use Rattle.ti_draft.specs.Canonical.{canonical, texts_table, present_count}
use Rattle.ti_draft.specs.Lengths.{AreFew, part_length}
use Rattle.ti_draft.specs.EncodeFaults.{encode_fault, has_nul, text_has_nul, is_out_of_range}
use Rattle.ti_draft.proofs.LengthLemmas.{length_standard, length_extended, length_parts, texts_table_append}

-- what has no fault, part by part
pub record Fit (v : EntryValue) : Type 0 where
  pub named : (length v.names == 0) ≡ false
  pub names : has_nul v.names ≡ false
  pub extended_names : list_any text_has_nul (map TextOf (part_names v.extended)) ≡ false
  pub texts : list_any text_has_nul v.standard.texts ≡ false
  pub extended_texts : list_any text_has_nul (without_names v.extended).texts ≡ false
  pub numbers : list_any (is_out_of_range v.width) v.standard.numbers ≡ false
  pub extended_numbers : list_any (is_out_of_range v.width) (without_names v.extended).numbers ≡ false
  pub short : length (canonical v) ≤ 2 ^ 15

pub fit : (v : EntryValue) → encode_fault v ≡ None → Fit v
fit v h = record {
  named = grind (arith, nat_tests);
  names = grind (arith, nat_tests);
  extended_names = grind (arith, nat_tests);
  texts = grind (arith, nat_tests);
  extended_texts = grind (arith, nat_tests);
  numbers = grind (arith, nat_tests);
  extended_numbers = grind (arith, nat_tests);
  short = grind (arith, nat_tests);
}

-- ---- what is not too long is few

at_least : (w : Width) (n : ℕ) → n ≤ n * number_size w
at_least w n = grind arith

present_within : (ts : List TextValue) → present_count ts ≤ length (texts_table ts)
present_within [] = omega arith
present_within (t ∷ ts) = grind (arith, common_steps, present_within ts)

names_within : (names : List (List ℕ)) → length (map TextOf names) ≤ length (texts_table (map TextOf names))
names_within [] = omega arith
names_within (name ∷ names) = simp length-append (omega (arith, names_within names))

few : (w : Width) (p : PartValue) (names : List (List ℕ)) → part_length w p (map TextOf names) + 10 ≤ 2 ^ 15 → AreFew p (map TextOf names)
few w p names short =
    let each = at_least w (length p.numbers) in
    let there = present_within p.texts in
    let named = names_within names in
    let table : length (texts_table (p.texts ++ map TextOf names)) ≡ length (texts_table p.texts) + length (texts_table (map TextOf names)) = simp (texts_table_append, length-append) in
    record { flags = omega arith; numbers = omega arith; texts = omega arith; items = omega arith; table = omega arith }

-- those of the standard part, and of the names before it
pub record FewStandard (v : EntryValue) : Type 0 where
  pub part : AreFew v.standard []
  pub names : length v.names + 1 + length v.standard.flags < 2 ^ 15

pub few_standard : (v : EntryValue) → encode_fault v ≡ None → FewStandard v
few_standard v h =
    let whole = (fit v h).short in
    let within = length_parts v (length (part_names v.extended) == 0) refl in
    let size = length_standard v in
    record { part = few v.width v.standard [] (omega arith); names = omega arith }

pub few_extended : (v : EntryValue) → encode_fault v ≡ None → (length (part_names v.extended) == 0) ≡ false → AreFew (without_names v.extended) (map TextOf (part_names v.extended))
few_extended v h e = few v.width (without_names v.extended) (part_names v.extended) (omega (arith, (fit v h).short, length_parts v false e, length_extended v))
