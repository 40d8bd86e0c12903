-- Bytes that pass all checks spell what they are read as.
use Rattle.std.proofs.Common.{◌≡◌, ℕ, ◌+◌, ◌*◌, ◌%◌, ◌<◌, ◌≤◌, Bool, true, false, cond, leb, List, [], ◌∷◌, ◌++◌, map, length, take, drop, inl, inr, refl, sym, ap, subst, ◌∙◌, arith}
use Rattle.std.proofs.lemmas.List.{drop_all, length-take-le, length-drop}
use Rattle.std.proofs.lemmas.Bool.Decides.{nat_tests}
use Rattle.std.proofs.lemmas.Bool.{leb-true, leb-false}
use Rattle.std.specs.List.{AllByRecursion, flat_map}
use Rattle.ti_base.specs.Limits.{most_entry_bytes}
use Rattle.ti_words.specs.declared.Width.{Width}
use Rattle.ti_words.specs.Value.{PartValue}
use Rattle.ti_layout.specs.declared.fault.Fault.TheVariants.{BadExtendedHeader}
use Rattle.ti_layout.specs.declared.part.Part.{Part}
use Rattle.ti_words.specs.Word.{unsigned_at}
use Rattle.ti_layout.specs.Layout.{standard, extended_after, no_capability, places, flags_end, offsets_from, end_of, extended_from}
use Rattle.ti_words.specs.Spelling.{pad_len, Spells, SpellsPart, HasExtendedPart, count_word, pad, join, part_spelling, extended_spelling, part_names, without_names}
use Rattle.ti_layout.specs.Table.{table_of, base_of}
use Rattle.ti_layout.specs.Checks.{Passes, Ends, verdict, pad_checks, ending_check, table_check, end_check}
use Rattle.ti_layout.specs.declared.section.Half.TheVariants.{Extended}
use Rattle.ti_layout.specs.declared.section.Section.TheVariants.{TableEnd, End}
use Rattle.ti_layout.specs.declared.section.SectionItem.TheVariants as item
use Rattle.ti_layout.specs.Refusal.{checks, extended_header_checks, extended_sections, extended_size_check, item_check, items, items_checks, room_check, section_checks, standard_sections}
use Rattle.ti_layout.proofs.EndsLemmas.{SectionPasses, sections_pass, room_passes}
use Rattle.ti_layout.specs.Content.{part_in, content_with, content, extended_part}
use Rattle.ti_layout.proofs.PassesLemmas.{first_passes}
use Rattle.ti_layout.proofs.WordLemmas.{IsBytes}
use Rattle.ti_layout.proofs.SectionReadLemmas.{both_pass, each_passed}
use Rattle.ti_layout.proofs.NamePlaceChecksLemmas.{table_length}
use Rattle.ti_entry.proofs.KindsFoundLemmas.{IsCount, count_is, pad_is}
use Rattle.ti_entry.proofs.NamedItemsLemmas.{values_are, part_counts, all_names_in}
use Rattle.ti_entry.proofs.PartLemmas.{end_even, PartPasses, part_passes, joins, strings_in, part_joined, HasFew, part_found, later_sections}
use Rattle.ti_entry.proofs.FoundLemmas.{HasPlain, sections_found}

-- what the checks of an extended part say that follows a standard one
record ExtendedPasses (bytes : List ℕ) (s x : Part) : Type 0 where
  outer_pad : Passes ≡ verdict (length bytes) (pad_checks bytes (end_of s))
  flags : IsCount bytes (extended_from s)
  numbers : IsCount bytes (extended_from s + 2)
  texts : IsCount bytes (extended_from s + 4)
  table : IsCount bytes (extended_from s + 8)
  fits : end_of x ≤ most_entry_bytes
  part : PartPasses bytes x
  whole : length bytes ≡ end_of x

-- the last check of all is the only one that is left where a whole entry ends
end_is : (len end : ℕ) → verdict len (end_check end ∷ []) ≡ Ends true → len ≤ end
end_is len end e = grind (arith, nat_tests)

extended_passes : (bytes : List ℕ) → IsBytes bytes → SectionPasses bytes TableEnd → AllByRecursion (SectionPasses bytes) extended_sections → verdict (length bytes) (flat_map (section_checks bytes) (End ∷ [])) ≡ Ends true
    → ExtendedPasses bytes (standard bytes) (extended_part bytes)
extended_passes bytes fits room k e =
    let len = length bytes in
    let s = standard bytes in
    let x = extended_part bytes in
    let from = extended_from s in
    let header = both_pass len (items_checks bytes (items (item.Sign BadExtendedHeader) from 3)) (extended_header_checks bytes s) k.0 in
    let signs = each_passed (item_check bytes (item.Sign BadExtendedHeader)) len from 2 3 header.0 in
    let zero : from + 2 * 0 ≡ from = omega arith in
    let sign = first_passes len (item_check bytes (item.Sign BadExtendedHeader) (from + 8)) (extended_size_check x ∷ []) header.1 in
    let size = first_passes len (extended_size_check x) [] sign.rest in
    let part = part_passes bytes Extended k.1 in
    let table = first_passes len (table_check (end_of x)) (map (ending_check bytes (table_of bytes x) (end_of x)) (places (offsets_from x) 2 x.texts)) part.endings in
    let at_least : end_of x ≤ len = table.long in
    let at_most : len ≤ end_of x = end_is len (end_of x) e in
    record {
      outer_pad = (first_passes len (room_check s) (pad_checks bytes (end_of s)) room).rest;
      flags = subst (IsCount bytes) zero (count_is bytes BadExtendedHeader (from + 2 * 0) fits (signs 0 (omega arith)));
      numbers = count_is bytes BadExtendedHeader (from + 2) fits (signs 1 (omega arith));
      texts = count_is bytes BadExtendedHeader (from + 4) fits (signs 2 (omega arith));
      table = count_is bytes BadExtendedHeader (from + 8) fits (record { long = sign.long; holds = sign.holds });
      fits = leb-true _ _ size.holds;
      part = part;
      whole = omega arith;
    }

extended_found : (bytes : List ℕ) (s x : Part) → IsBytes bytes → x ≡ extended_after s bytes → ExtendedPasses bytes s x → HasExtendedPart (content_with bytes s x) s.table (drop (end_of s) bytes)
extended_found bytes s x fits is k =
    let from = extended_from s in
    let v = content_with bytes s x in
    let p = part_in bytes x in
    let strings = strings_in bytes x in
    let whole = k.whole in
    let width : x.width ≡ s.width = ap (λ (p : Part). p.width) is in
    let at : x.flags_from ≡ from + 10 = ap (λ (p : Part). p.flags_from) is in
    let named : x.flags + x.numbers + x.texts ≡ x.names = ap (λ (p : Part). p.flags + p.numbers + p.texts) is ∙ sym (ap (λ (p : Part). p.names) is) in
    let f0 : x.flags ≡ unsigned_at 2 bytes from = ap (λ (p : Part). p.flags) is in
    let f1 : x.numbers ≡ unsigned_at 2 bytes (from + 2) = ap (λ (p : Part). p.numbers) is in
    let f2 : x.texts ≡ unsigned_at 2 bytes (from + 4) = ap (λ (p : Part). p.texts) is in
    let f3 : x.table ≡ unsigned_at 2 bytes (from + 8) = ap (λ (p : Part). p.table) is in
    let counts = part_counts bytes x in
    let flags_len = counts.of_flags in
    let size : length strings.table ≡ x.table = table_length bytes x (omega arith) in
    let items = take 2 (drop (from + 6) bytes) in
    let m = length p.flags in
    let pad_even = end_even s in
    let even : flags_end x % 2 ≡ pad_len m = omega arith in
    let nothing : drop (end_of x) bytes ≡ [] = drop_all (end_of x) bytes (omega arith) in
    let t6 = part_joined bytes m x fits k.part (omega arith) even ∙ ap (join (part_spelling x.width m p strings)) nothing in
    let t5 = joins bytes (count_word (length strings.table)) _ (from + 8) 2 x.flags_from (omega arith) (k.table.bytes_are ∙ ap count_word (sym (size ∙ f3))) t6 in
    let t4 = joins bytes items _ (from + 6) 2 (from + 8) (omega arith) refl t5 in
    let t3 = joins bytes (count_word (length p.texts)) _ (from + 4) 2 (from + 6) (omega arith) (k.texts.bytes_are ∙ ap count_word (sym (counts.of_texts ∙ f2))) t4 in
    let t2 = joins bytes (count_word (length p.numbers)) _ (from + 2) 2 (from + 4) (omega arith) (k.numbers.bytes_are ∙ ap count_word (sym (counts.of_numbers ∙ f1))) t3 in
    let t1 = joins bytes (count_word (length p.flags)) _ from 2 (from + 2) refl (k.flags.bytes_are ∙ ap count_word (sym (counts.of_flags ∙ f0))) t2 in
    let t0 = joins bytes (pad s.table) _ (end_of s) (pad_len s.table) from (omega arith) (pad_is bytes (end_of s) s.table pad_even k.outer_pad) t1 in
    let shape : Width → PartValue → List ℕ = λ w q. join (extended_spelling s.table items w q strings) [] in
    let said : without_names v.extended ≡ p = values_are bytes x (base_of bytes x) in
    let few : HasFew x = record { flags = rw f0 k.flags.small; numbers = rw f1 k.numbers.small; texts = rw f2 k.texts.small; table = rw f3 k.table.small } in
    let found = part_found bytes x fits k.part (omega arith) few in
    record {
      items = items;
      strings = strings;
      joined = t0 ∙ ap (λ w. shape w p) width ∙ ap (shape s.width) (sym said);
      items_size = length-take-le 2 (drop (from + 6) bytes) (omega (arith, length-drop (from + 6) bytes));
      part = subst (λ w. SpellsPart w strings (without_names v.extended) (part_names v.extended)) width
          (subst (λ q. SpellsPart x.width strings q (part_names v.extended)) (sym said)
          (subst (λ names. SpellsPart x.width strings p names) (sym (all_names_in bytes x (base_of bytes x) named)) found));
    }

-- ---- the whole

pub found : (bytes : List ℕ) → IsBytes bytes → verdict (length bytes) (checks bytes) ≡ Ends true → Spells bytes (content bytes)
found bytes fits h =
    let before = sections_pass bytes standard_sections later_sections (refl, (refl, (refl, (refl, (refl, (refl, (refl, tt))))))) h in
    by_end (leb (length bytes) (end_of (standard bytes))) refl (sections_found bytes fits before.0) before.1
  where
    by_end : (b : Bool) → leb (length bytes) (end_of (standard bytes)) ≡ b → HasPlain bytes
        → verdict (length bytes) (flat_map (section_checks bytes) later_sections) ≡ Ends true
        → Spells bytes (content_with bytes (standard bytes) (cond b no_capability (extended_part bytes)))
    by_end true e plain k =
        let le : length bytes ≤ end_of (standard bytes) = leb-true _ _ e in
        let fit = plain.fits in
        record {
          fits = omega arith;
          strings = strings_in bytes (standard bytes);
          rest = drop (end_of (standard bytes)) bytes;
          standard = plain.sections no_capability;
          extended = inl (record { ends = drop_all (end_of (standard bytes)) bytes le; none = refl });
        }
    by_end false e plain k =
        let s = standard bytes in
        let x = extended_part bytes in
        let above : end_of s < length bytes = omega (arith, leb-false (length bytes) (end_of s) e) in
        let room = room_passes bytes (flat_map (section_checks bytes) (extended_sections ++ (End ∷ []))) above k in
        let rest = sections_pass bytes extended_sections (End ∷ []) (refl, (refl, (refl, (refl, (refl, tt))))) room.ends in
        let p = extended_passes bytes fits room.passes rest.0 rest.1 in
        let part = extended_found bytes s x fits refl p in
        let whole = p.whole in
        let fit = p.fits in
        record {
          fits = omega arith;
          strings = strings_in bytes s;
          rest = drop (end_of s) bytes;
          standard = plain.sections x;
          extended = inr (subst (λ n. HasExtendedPart (content_with bytes s x) n (drop (end_of s) bytes)) (sym plain.table_size) part);
        }
