-- Bytes that pass the checks up to the end of the string table have the sections that they are read as.
use Rattle.std.proofs.Common.{◌≡◌, ℕ, ◌+◌, ◌-◌, ◌%◌, ◌≤◌, true, List, [], ◌∷◌, ◌++◌, map, length, get_or, take, drop, refl, sym, ap, ◌∙◌, arith}
use Rattle.std.proofs.Math.Seq.{take-add}
use Rattle.std.proofs.lemmas.List.{drop-drop, length-take-le, length-drop}
use Rattle.std.proofs.lemmas.Bool.{eqb-true, leb-true}
use Rattle.std.proofs.lemmas.Bool.Decides.{nat_tests}
use Rattle.std.specs.Prelude.{slice_range, is_some, unwrap_or}
use Rattle.ti_base.specs.Limits.{most_entry_bytes}
use Rattle.ti_words.specs.declared.Width.TheVariants.{Legacy}
use Rattle.ti_layout.specs.declared.fault.Fault.TheVariants.{BadHeader, BadNames}
use Rattle.ti_layout.specs.declared.part.Part.{Part}
use Rattle.ti_words.specs.Word.{unsigned_at}
use Rattle.ti_layout.specs.Layout.{standard, places, flags_end, offsets_from, end_of}
use Rattle.ti_words.specs.Widths.{magic_number, width_of_magic}
use Rattle.ti_words.specs.Spelling.{pad_len, HasStandardPart, magic, count_word}
use Rattle.ti_words.specs.Texts.{is_nul}
use Rattle.ti_layout.specs.Table.{table_of}
use Rattle.ti_layout.specs.Checks.{nul_check, ending_check, table_check}
use Rattle.std.specs.List.{AllByRecursion}
use Rattle.ti_layout.specs.declared.section.Half.TheVariants.{Standard}
use Rattle.ti_layout.specs.declared.section.SectionItem.TheVariants as item
use Rattle.ti_layout.specs.Refusal.{item_check, items, items_checks, magic_check, named_check, size_check, size_checks, standard_sections}
use Rattle.ti_layout.proofs.EndsLemmas.{SectionPasses}
use Rattle.ti_layout.specs.Content.{content_with}
use Rattle.ti_layout.proofs.PassesLemmas.{first_passes}
use Rattle.ti_layout.proofs.WordLemmas.{IsBytes, bytes_again, one_byte}
use Rattle.ti_layout.proofs.NamePlaceChecksLemmas.{table_length}
use Rattle.ti_entry.proofs.KindsFoundLemmas.{count_is}
use Rattle.ti_entry.proofs.NamedItemsLemmas.{part_counts}
use Rattle.ti_entry.proofs.PartLemmas.{part_passes, joins, strings_in, part_joined, part_found}
use Rattle.ti_layout.proofs.SectionReadLemmas.{both_pass, each_passed, no_nuls}

-- an input that starts with some magic number starts with that of its width
starts : (u : ℕ) → is_some (width_of_magic u) ≡ true → u ≡ magic_number (unwrap_or (width_of_magic u) Legacy)
starts u h = grind (arith, nat_tests)

-- the names and their NUL
names_are : (bytes : List ℕ) (size : ℕ) → 2 ≤ size → 12 + size ≤ length bytes → is_nul (get_or bytes (12 + size - 1) 0) ≡ true → take size (drop 12 bytes) ≡ slice_range bytes 12 (12 + size - 1) ++ 0 ∷ []
names_are bytes size some le nul =
    let last = 12 + size - 1 in
    let n : size ≡ (last - 12) + 1 = omega arith in
    let at : 12 + (last - 12) ≡ last = omega arith in
    let zero : take 1 (drop last bytes) ≡ 0 ∷ [] = one_byte bytes last (omega arith) ∙ ap (λ (x : ℕ). x ∷ []) (eqb-true _ _ nul) in
    ap (λ k. take k (drop 12 bytes)) n ∙ take-add (last - 12) 1 (drop 12 bytes)
    ∙ ap (λ t. take (last - 12) (drop 12 bytes) ++ take 1 t) (drop-drop (last - 12) 12 bytes ∙ ap (λ k. drop k bytes) at)
    ∙ ap (λ t. take (last - 12) (drop 12 bytes) ++ t) zero

names_length : (bytes : List ℕ) (size : ℕ) → 2 ≤ size → 12 + size ≤ length bytes → length (slice_range bytes 12 (12 + size - 1)) + 1 ≡ size
names_length bytes size some le = omega (arith, length-take-le (12 + size - 1 - 12) (drop 12 bytes) (omega (arith, length-drop 12 bytes)))

-- the sections up to the end of the string table, and what follows, whatever the extended part is
pub record HasPlain (bytes : List ℕ) : Type 0 where
  pub fits : end_of (standard bytes) ≤ most_entry_bytes
  pub there : end_of (standard bytes) ≤ length bytes
  pub table_size : length (table_of bytes (standard bytes)) ≡ (standard bytes).table
  pub sections : (x : Part) → HasStandardPart (content_with bytes (standard bytes) x) (strings_in bytes (standard bytes)) (drop (end_of (standard bytes)) bytes) bytes

pub sections_found : (bytes : List ℕ) → IsBytes bytes → AllByRecursion (SectionPasses bytes) standard_sections → HasPlain bytes
sections_found bytes fits h =
    let len = length bytes in
    let s = standard bytes in
    let size = unsigned_at 2 bytes 2 in
    -- what the checks say
    let started = first_passes len (magic_check bytes) [] h.0 in
    let header = both_pass len (items_checks bytes (items (item.Sign BadHeader) 2 5)) (size_checks s) h.1.0 in
    let signs = each_passed (item_check bytes (item.Sign BadHeader)) len 2 2 5 header.0 in
    let c1 = count_is bytes BadHeader 2 fits (signs 0 (omega arith)) in
    let c2 = count_is bytes BadHeader 4 fits (signs 1 (omega arith)) in
    let c3 = count_is bytes BadHeader 6 fits (signs 2 (omega arith)) in
    let c4 = count_is bytes BadHeader 8 fits (signs 3 (omega arith)) in
    let c5 = count_is bytes BadHeader 10 fits (signs 4 (omega arith)) in
    let big = first_passes len (size_check s) (named_check s ∷ []) header.1 in
    let small = first_passes len (named_check s) [] big.rest in
    let limit : end_of s ≤ most_entry_bytes = leb-true _ _ big.holds in
    let some : 14 ≤ s.flags_from = leb-true _ _ small.holds in
    let n = both_pass len (items_checks bytes (items item.Name 12 (s.flags_from - 13))) (nul_check bytes BadNames (s.flags_from - 1) ∷ []) h.1.1.0 in
    let each_name = each_passed (item_check bytes item.Name) len 12 1 (s.flags_from - 13) n.0 in
    let named = first_passes len (nul_check bytes BadNames (s.flags_from - 1)) [] n.1 in
    let p = part_passes bytes Standard h.1.1.1 in
    let at_end = first_passes len (table_check (end_of s)) (map (ending_check bytes (table_of bytes s) (end_of s)) (places (offsets_from s) 2 s.texts)) p.endings in
    let there : end_of s ≤ len = at_end.long in
    -- the sections
    let v = content_with bytes s s in
    let counts = part_counts bytes s in
    let strings = strings_in bytes s in
    let rest = drop (end_of s) bytes in
    let table_len : length strings.table ≡ s.table = table_length bytes s there in
    let names_len : length v.names + 1 ≡ size = names_length bytes size (omega arith) (omega arith) in
    let flags_len = counts.of_flags in
    let m = length v.names + 1 + length v.standard.flags in
    let even : flags_end s % 2 ≡ pad_len m = omega arith in
    let t7 = part_joined bytes m s fits p there even in
    let t6 = joins bytes (v.names ++ 0 ∷ []) _ 12 size s.flags_from refl (names_are bytes size (omega arith) (omega arith) named.holds) t7 in
    let t5 = joins bytes (count_word (length strings.table)) _ 10 2 12 refl (c5.bytes_are ∙ ap count_word (sym table_len)) t6 in
    let t4 = joins bytes (count_word (length v.standard.texts)) _ 8 2 10 refl (c4.bytes_are ∙ ap count_word (sym counts.of_texts)) t5 in
    let t3 = joins bytes (count_word (length v.standard.numbers)) _ 6 2 8 refl (c3.bytes_are ∙ ap count_word (sym counts.of_numbers)) t4 in
    let t2 = joins bytes (count_word (length v.standard.flags)) _ 4 2 6 refl (c2.bytes_are ∙ ap count_word (sym counts.of_flags)) t3 in
    let t1 = joins bytes (count_word (length v.names + 1)) _ 2 2 4 refl (c1.bytes_are ∙ ap count_word (sym names_len)) t2 in
    let start : take 2 bytes ≡ magic s.width = bytes_again 2 bytes 0 fits started.long ∙ ap count_word (starts (unsigned_at 2 bytes 0) started.holds) in
    let t0 = joins bytes (magic s.width) _ 0 2 2 refl start t1 in
    record {
      fits = limit;
      there = there;
      table_size = table_len;
      sections = λ x. record {
        joined = t0;
        named = omega arith;
        few_names = rw names_len c1.small;
        names_fit = no_nuls bytes 12 (s.flags_from - 1 - 12) (omega arith) (λ i lt. (each_name i (omega arith)).holds);
        part = part_found bytes s fits p there record { flags = c2.small; numbers = c3.small; texts = c4.small; table = c5.small };
      };
    }
